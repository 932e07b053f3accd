-- What only the crate's own code speaks of.
pub mod Codes
pub mod Held
pub mod Opened
pub mod Parts
pub mod Slots
