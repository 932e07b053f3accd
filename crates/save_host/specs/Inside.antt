pub mod Writes
pub mod Hosts
pub mod Answers
