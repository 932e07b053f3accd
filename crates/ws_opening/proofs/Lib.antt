pub mod Named
pub mod Workspaces
pub mod Told
pub mod Begun
