pub mod Reginfo
