pub mod Inside
pub mod Records
