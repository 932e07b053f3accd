pub mod Steps
pub mod Points
pub mod Causes
pub mod Rounds
pub mod Saves
pub mod Kept
pub mod Stages
