pub mod Adds
pub mod Turns
pub mod Tokens
