pub mod Lines
pub mod Places
pub mod Faults
pub mod Table
