pub mod Limits
pub mod Areas
pub mod Texts
pub mod Outcomes
pub mod Inside
pub mod Builds
