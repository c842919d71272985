pub mod Open
pub mod Opened
