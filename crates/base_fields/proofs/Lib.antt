pub mod Numbers
pub mod Layouts
pub mod Stores
