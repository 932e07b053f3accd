pub mod Placed
pub mod Told
pub mod Committed
pub mod Touched
pub mod Inside
