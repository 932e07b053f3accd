-- The lock's rule, and what each step does to it: words that private code alone speaks of.
pub mod Turn
pub mod Steps
