pub mod Calls
pub mod Jobs
pub mod Saves
pub mod Builds
pub mod Opening
-- Words that private code alone speaks of.
pub mod Inside
