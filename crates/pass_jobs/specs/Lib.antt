pub mod Calls
-- Words that private code alone speaks of.
pub mod Inside
