pub mod Told
pub mod Firsts
pub mod Rounds
pub mod Passes
pub mod Restoring
pub mod Noted
