pub mod UnderWay
pub mod Services
pub mod Replies
pub mod Lines
pub mod Printing
