pub mod There
pub mod Served
