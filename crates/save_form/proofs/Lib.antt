pub mod Combined
pub mod Fields
pub mod Loop
pub mod Rows
pub mod Sequences
pub mod Steps
pub mod Stops
pub mod Wholes
