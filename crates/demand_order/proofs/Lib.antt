pub mod Matched
pub mod Times
pub mod Once
pub mod Goals
pub mod Lost
pub mod Carried
pub mod Pairs
pub mod Same
