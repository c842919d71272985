pub mod Statics
pub mod Table
