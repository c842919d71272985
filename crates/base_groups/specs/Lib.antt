pub mod Groups
pub mod Holders
