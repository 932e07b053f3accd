pub mod Damages
pub mod Faults
pub mod Looks
pub mod States
pub mod Stored
