pub mod Object
pub mod Steps
pub mod Own
