pub mod States
pub mod Deeds
pub mod Saves
pub mod Handing
pub mod Inside
