pub mod Saves
pub mod Commands
pub mod Books
