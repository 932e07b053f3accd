pub mod Kinds
pub mod Places
pub mod Files
pub mod Tasks
pub mod Edits
pub mod Meanings
pub mod Lawful
pub mod Told
