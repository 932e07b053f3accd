-- Words of the code: how what is seen is walked.
pub mod Walks
