-- What only the code that reads scripts speaks of: the verbs that lines begin with.
pub mod Verbs
