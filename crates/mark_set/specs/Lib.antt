pub mod Attributes
pub mod Causes
pub mod Deltas
pub mod Equivalences
pub mod Forms
pub mod Inside
pub mod Markers
