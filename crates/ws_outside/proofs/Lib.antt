pub mod Crashing
pub mod Fronts
pub mod Replays
