pub mod Rounds
pub mod Courses
