pub mod Finding
pub mod KeptFiles
pub mod Making
pub mod Sound
