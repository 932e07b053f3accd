pub mod Values
pub mod Described
pub mod FirstCause
pub mod Causes
pub mod Inside
pub mod Canonical
pub mod Valid
pub mod Words
