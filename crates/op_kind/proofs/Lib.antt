pub mod Cases
pub mod ChangedWhere
pub mod Looks
pub mod PathsBelow
