pub mod States
pub mod Histories
