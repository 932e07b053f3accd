pub mod States
pub mod Turns
pub mod Changed
pub mod Queues
pub mod Inside
