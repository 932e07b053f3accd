pub mod There
pub mod Turned
pub mod Entered
pub mod Pairs
pub mod Told
pub mod Waited
