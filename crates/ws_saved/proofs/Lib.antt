pub mod Quiet
pub mod Sounds
