pub mod Plans
-- Words that private code alone speaks of.
pub mod Inside
