pub mod Cutting
pub mod Built
pub mod Kept
pub mod Calm
