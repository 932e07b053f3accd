pub mod Inside
pub mod Lasting
pub mod Saved
