pub mod Nothing
pub mod Rules
