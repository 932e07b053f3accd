pub mod Dropped
pub mod Projects
pub mod Written
pub mod Printed
pub mod Pieces
