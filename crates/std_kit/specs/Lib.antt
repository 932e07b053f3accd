-- What only the crate's own code speaks of.
pub mod Inside
pub mod Placed
pub mod Roots
pub mod Changes
pub mod Making
pub mod Since
