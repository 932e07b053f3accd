pub mod Inside
pub mod Layers
