pub mod File
pub mod Code
