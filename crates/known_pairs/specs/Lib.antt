pub mod Jobs
pub mod Pairs
