pub mod Forms
pub mod Gives
pub mod Laws
pub mod Lists
