pub mod LineUp
pub mod Agrees
