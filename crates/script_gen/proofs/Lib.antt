pub mod Made
pub mod Named
pub mod Parts
