pub mod Passes
pub mod Rows
pub mod Inside
