mod Worked
pub mod Coded
pub mod Begun
pub mod Named
pub mod Runs
pub mod Spelling
pub mod Whole
pub mod Texts
