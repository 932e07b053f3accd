-- Words that private code alone speaks of.
pub mod Placing
pub mod Lesser
