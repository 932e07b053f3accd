pub mod Events
pub mod Calls
pub mod Settled
pub mod Dues
pub mod Handings
