-- Lemmas on which the laws of atoms rest.
pub mod Prefixes
pub mod RangeLaws
