pub mod Counting
pub mod Damaging
pub mod FreshState
pub mod Meanings
pub mod OneDamage
pub mod Only
pub mod Opening
pub mod Runs
