pub mod Lines
pub mod Messages
pub mod Expanding
pub mod Cutting
