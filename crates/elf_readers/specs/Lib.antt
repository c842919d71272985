pub mod Readers
pub mod Bounds
