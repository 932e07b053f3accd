pub mod Stepped
pub mod Grown
mod Told
pub mod OpenOutput
pub mod SoundKept
mod OpenedSound
mod SessionsKept
mod Attempts
pub mod Roomy
pub mod ServingPass
mod Served
