pub mod Lookups
