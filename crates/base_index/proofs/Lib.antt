pub mod Numbers
pub mod Hashes
pub mod Table
pub mod Index
pub mod Chains
