pub mod Opened
pub mod Fits
pub mod Halls
pub mod Asked
pub mod Jobs
pub mod Moved
-- Words that private code alone speaks of.
pub mod Inside
