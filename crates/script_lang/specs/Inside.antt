-- What only the crate's own code speaks of: the names of a phase's jobs in order, how a script is read line by line, and
-- how its lines are printed.
pub mod Ordered
pub mod Reading
pub mod Printed
