pub mod Joined
pub mod Sound
