pub mod Plans
pub mod Runs
pub mod Calm
pub mod Inside
