pub mod Lists
pub mod Plans
pub mod Parts
pub mod Orders
pub mod Fronts
pub mod Counts
pub mod Alone
pub mod Calm
