pub mod Turns
pub mod Called
pub mod Beside
pub mod UnderWay
