-- What only the crate's own code speaks of.
pub mod Tellable
