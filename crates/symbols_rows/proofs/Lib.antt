pub mod Rows
pub mod Listing
pub mod Faults
pub mod Tables
