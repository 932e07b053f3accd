pub mod Sites
pub mod Desks
pub mod Refusals
pub mod Judging
