pub mod Descriptions
pub mod Inside
pub mod Ordered
pub mod Plans
