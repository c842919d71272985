pub mod Draft
pub mod Pad
