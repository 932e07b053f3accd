pub mod Opened
pub mod Restored
