pub mod View
pub mod Object
pub mod Sound
