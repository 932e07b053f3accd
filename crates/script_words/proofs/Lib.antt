pub mod Items
pub mod Tokens
pub mod Unescaping
pub mod Lined
pub mod Grown
pub mod Pieces
pub mod Quoting
pub mod Printed
pub mod Taking
pub mod Places
mod Worked
