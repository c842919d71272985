pub mod Blocks
pub mod Table
