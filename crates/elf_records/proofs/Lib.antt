pub mod Offsets
pub mod RoundTrip
pub mod Writes
