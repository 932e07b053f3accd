pub mod Appends
pub mod Opened
pub mod Points
pub mod Sound
pub mod Steps
