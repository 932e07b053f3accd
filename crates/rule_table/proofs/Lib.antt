pub mod Newest
pub mod Lowest
pub mod Kept
