pub mod Books
pub mod Ends
pub mod Sweeps
pub mod Starts
pub mod Commands
pub mod Inside
