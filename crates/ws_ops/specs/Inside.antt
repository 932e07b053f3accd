-- Words of private code.
pub mod AtOnce
