pub mod Laws
pub mod Rules
pub mod Ranges
pub mod Atoms
pub mod Inside
pub mod AtomLaws
