pub mod Choosing
pub mod Ending
mod Rows
