pub mod Names
pub mod Merged
pub mod Agree
pub mod Examples
