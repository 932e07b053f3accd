-- What only the code that writes speaks of.
pub mod Between
pub mod Spellings
pub mod Told
