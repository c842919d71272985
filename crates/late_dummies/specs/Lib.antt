pub mod Dummies
pub mod Spots
