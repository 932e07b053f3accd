-- Words that private code alone speaks of.
pub mod Kept
pub mod Codes
