pub mod Words
pub mod Deltas
pub mod Elements
pub mod Trees
pub mod Rules
