pub mod Object
pub mod Sound
pub mod Order
pub mod Views
