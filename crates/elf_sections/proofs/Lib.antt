pub mod Headers
pub mod Names
pub mod Bounds
