pub mod Text
pub mod Limits
pub mod Elf
pub mod Codes
pub mod Refusals
