pub mod Eaches
pub mod Labels
pub mod Parents
pub mod Stamped
pub mod Wholes
