pub mod Changes
pub mod Narrow
pub mod Once
pub mod Sayables
pub mod Stopping
pub mod Whole
