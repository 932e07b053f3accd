-- What only the code that reads and prints scripts speaks of: how values are found in tokens, and which parts their
-- printed words stand for.
pub mod Found
pub mod Printed
