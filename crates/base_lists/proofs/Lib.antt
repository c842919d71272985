pub mod Ranges
pub mod Rows
pub mod Halves
pub mod Windows
pub mod Written
pub mod Records
pub mod Pieces
pub mod Strings
