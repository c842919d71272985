pub mod Strings
pub mod Names
