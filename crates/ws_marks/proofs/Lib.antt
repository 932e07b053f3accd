pub mod Firsts
pub mod Places
pub mod Sorted
pub mod Tables
pub mod Kept
pub mod Unwound
