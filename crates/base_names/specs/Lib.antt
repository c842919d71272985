pub mod Ends
pub mod Tables
pub mod Words
