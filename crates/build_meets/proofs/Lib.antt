mod Differs
mod Counted
pub mod Meets
