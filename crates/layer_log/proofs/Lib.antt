pub mod Looks
pub mod Taking
pub mod Composing
pub mod Settling
pub mod Undoing
