pub mod Layout
pub mod Image
