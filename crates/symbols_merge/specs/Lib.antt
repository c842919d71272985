pub mod Candidates
pub mod Listed
pub mod Merged
