pub mod Trees
pub mod Commits
pub mod Sounds
pub mod Differing
pub mod Walks
pub mod Groups
pub mod Scratches
pub mod Ordered
