pub mod Lists
pub mod Views
pub mod Queue
pub mod Value
pub mod Seats
pub mod Passes
