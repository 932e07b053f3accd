pub mod Area
pub mod Moments
pub mod Reading
pub mod Writes
