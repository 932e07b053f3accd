pub mod Sites
pub mod Sights
pub mod Inside
