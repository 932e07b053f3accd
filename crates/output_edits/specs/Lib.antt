pub mod Outputs
pub mod Bad
pub mod Wanted
pub mod Judging
