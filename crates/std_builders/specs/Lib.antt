pub mod Standards
pub mod Builders
