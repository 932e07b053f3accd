-- Words of the code of plans: what is planned, how it is undone, and how a branch is walked.
pub mod Lists
pub mod Plans
pub mod Walks
