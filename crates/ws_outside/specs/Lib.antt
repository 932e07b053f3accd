pub mod Crashes
pub mod Disk
pub mod Faults
pub mod Inside
pub mod Memory
pub mod Replay
pub mod Streams
