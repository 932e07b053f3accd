pub mod Numbers
pub mod Paths
pub mod Values
pub mod Fitting
pub mod Fronts
pub mod Ruled
pub mod Spaced
pub mod Spelled
