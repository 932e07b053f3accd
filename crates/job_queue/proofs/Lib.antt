pub mod Tables
pub mod Named
pub mod Counted
pub mod Keeping
pub mod Found
pub mod Nexts
