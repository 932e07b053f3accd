-- Words that private code alone speaks of.
pub mod Doing
pub mod Running
