-- What only the crate's own functions speak of.
pub mod Codes
pub mod Kept
pub mod Parts
pub mod Rooms
