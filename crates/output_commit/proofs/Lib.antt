pub mod Gone
pub mod Counting
mod Alone
mod Planned
pub mod Shown
pub mod Wished
mod Undisputed
pub mod Left
pub mod Apart
pub mod Filled
mod Under
mod Pruned
mod Spots
mod Grown
pub mod Reasons
mod Noted
pub mod SoundCommit
pub mod Cleaned
pub mod AllFiles
