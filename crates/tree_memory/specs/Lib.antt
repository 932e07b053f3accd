pub mod Inside
pub mod Spared
