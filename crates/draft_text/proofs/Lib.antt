pub mod Text
pub mod Places
pub mod Late
