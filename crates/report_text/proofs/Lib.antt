pub mod Relative
pub mod Branches
pub mod Flags
