-- What only the code that reads and prints scripts speaks of: how a line and a quoted word are read step by step, and how
-- lines are passed.
pub mod Bytes
pub mod Quoted
pub mod Tokens
pub mod Passing
pub mod Counts
