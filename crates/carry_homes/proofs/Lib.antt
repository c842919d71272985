pub mod Tables
pub mod Names
pub mod Joins
pub mod Steps
