pub mod Admitted
pub mod Ended
pub mod Apart
pub mod Counts
