pub mod Cut
pub mod Passing
pub mod Numbers
pub mod Shown
