pub mod Steps
pub mod Content
pub mod ReadBack
pub mod Tables
pub mod Words
pub mod Writing
pub mod Own
pub mod Again
