mod Joined
mod Unshelved
mod Known
pub mod Opens
