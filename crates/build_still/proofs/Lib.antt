pub mod Splits
pub mod Held
pub mod Markers
pub mod Others
pub mod Still
