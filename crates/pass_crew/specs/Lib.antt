pub mod Passes
pub mod Heard
pub mod Told
pub mod Ends
-- Words that private code alone speaks of.
pub mod Inside
