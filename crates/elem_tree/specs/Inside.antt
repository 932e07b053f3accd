-- What only the crate's own code speaks of.
pub mod Codes
pub mod Entries
pub mod Forgets
pub mod Gathered
pub mod Joins
pub mod Shown
pub mod Slots
