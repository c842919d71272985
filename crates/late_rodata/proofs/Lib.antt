pub mod Fits
pub mod Writing
