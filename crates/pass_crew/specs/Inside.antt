pub mod Admitted
pub mod Assembled
pub mod Running
pub mod Telling
