pub mod Staying
pub mod Given
pub mod Serving
pub mod Standing
pub mod Leaving
