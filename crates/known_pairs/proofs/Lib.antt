pub mod Everything
pub mod Pairs
