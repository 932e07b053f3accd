pub mod Coded
pub mod Begun
pub mod Verbs
pub mod Named
