pub mod Due
pub mod Roots
pub mod Walked
pub mod Views
