pub mod Passes
pub mod Parts
pub mod Workers
pub mod Phases
-- Words of private code; of these `Meeting` is that of `gather` too.
pub mod Inside
