-- What only the crate's own code speaks of.
pub mod Passes
pub mod Tables
pub mod Walks
