pub mod Changed
pub mod Entries
pub mod Fits
pub mod Paths
pub mod States
