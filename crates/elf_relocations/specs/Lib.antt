pub mod Relocations
