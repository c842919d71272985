pub mod Ends
pub mod Image
