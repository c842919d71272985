pub mod Ends
pub mod Equal
pub mod Parts
pub mod Prefixes
pub mod Words
pub mod Zeros
