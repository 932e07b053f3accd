pub mod States
pub mod Commits
pub mod Records
pub mod Plans
pub mod Turns
pub mod Builds
pub mod Planned
