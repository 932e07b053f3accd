pub mod Edits
pub mod Backs
pub mod Inside
