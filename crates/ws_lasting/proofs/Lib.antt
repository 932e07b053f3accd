pub mod Above
pub mod Commands
pub mod Lasts
pub mod Settled
pub mod Walked
