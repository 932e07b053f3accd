pub mod Equal
pub mod Merged
pub mod Order
