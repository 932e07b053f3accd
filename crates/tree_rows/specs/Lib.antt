pub mod Inside
pub mod Rows
pub mod Same
pub mod Shown
