pub mod Spans
pub mod Copied
pub mod Table
