pub mod Managers
pub mod Admission
pub mod Refusals
pub mod Effects
pub mod Batches
pub mod Ends
