pub mod Elems
pub mod Fits
pub mod Inside
pub mod Sound
pub mod Telling
