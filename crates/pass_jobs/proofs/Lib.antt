pub mod Went
pub mod Quiet
pub mod Turns
pub mod Jobs
pub mod Sleepers
pub mod Meets
