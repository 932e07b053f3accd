-- What only the crate's own code speaks of.
pub mod Graphs
pub mod Groups
pub mod Placings
pub mod Rows
pub mod Searches
