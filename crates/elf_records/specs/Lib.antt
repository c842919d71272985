pub mod Header
pub mod Section
pub mod Symbol
pub mod Relocation
pub mod Debug
