pub mod Marks
pub mod Groups
pub mod Words
