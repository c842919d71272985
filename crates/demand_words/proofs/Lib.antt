pub mod Sections
pub mod Ends
pub mod Finals
pub mod Words
pub mod References
pub mod Kept
