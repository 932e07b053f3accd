pub mod Names
pub mod Paths
pub mod PathLaws
pub mod Parts
pub mod Inside
