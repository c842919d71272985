pub mod Order
pub mod Opening
pub mod Buffers
