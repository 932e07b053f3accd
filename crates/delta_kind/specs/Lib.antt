pub mod Deltas
pub mod Flags
pub mod Inside
pub mod Moves
pub mod Rows
