pub mod Homes
pub mod Code
