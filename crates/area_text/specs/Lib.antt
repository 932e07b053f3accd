pub mod Areas
pub mod Damages
pub mod Looks
