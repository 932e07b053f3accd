pub mod Operations
pub mod Inside
