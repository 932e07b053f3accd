-- Words that private code alone speaks of.
pub mod Codes
pub mod Kept
