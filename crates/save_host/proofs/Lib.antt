pub mod Caused
pub mod Writing
pub mod Books
pub mod Places
pub mod Stepping
pub mod Hosting
pub mod Answered
