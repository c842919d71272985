pub mod Leaves
pub mod Counts
pub mod Order
pub mod Numbers
pub mod Result
