-- Words that private code alone speaks of.
pub mod Parts
pub mod Opening
pub mod Running
