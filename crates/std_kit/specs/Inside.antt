pub mod Neighbours
pub mod Walks
