pub mod Ready
pub mod Stage
