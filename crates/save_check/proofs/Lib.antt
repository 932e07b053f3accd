pub mod Lasting
pub mod Ranges
pub mod Tellings
pub mod Validity
