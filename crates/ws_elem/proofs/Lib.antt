pub mod Ordered
pub mod Cuts
pub mod Fresh
pub mod Rooms
pub mod Kept
pub mod Filled
pub mod Apart
