pub mod Pairs
pub mod Passes
pub mod Boards
pub mod Meetings
pub mod Stages
pub mod Phases
pub mod Runs
pub mod Results
