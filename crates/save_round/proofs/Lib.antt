pub mod Called
pub mod Places
pub mod Asked
pub mod Stops
pub mod Restored
