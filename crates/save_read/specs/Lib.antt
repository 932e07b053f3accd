pub mod Inside
pub mod Sayable
pub mod Texts
