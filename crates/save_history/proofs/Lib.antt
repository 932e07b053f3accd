pub mod Walks
pub mod Points
pub mod Backed
pub mod Safe
pub mod Stepped
pub mod Stages
pub mod Rounds
pub mod Saved
