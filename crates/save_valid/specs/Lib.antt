pub mod Descriptions
pub mod Inside
pub mod Places
pub mod Rules
