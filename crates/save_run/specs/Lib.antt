pub mod Books
pub mod Saves
pub mod Inside
