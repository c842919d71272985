pub mod Groups
pub mod Holders
pub mod Examples
