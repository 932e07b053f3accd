pub mod Cuts
pub mod Spelled
pub mod Compared
pub mod Kept
pub mod Built
pub mod Prefixes
pub mod Words
