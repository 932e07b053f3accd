pub mod Bases
pub mod Changes
pub mod Lists
pub mod Whole
