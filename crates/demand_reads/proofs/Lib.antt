pub use Rattle.demand_symbols.proofs as of_demand_symbols
pub mod Header
pub mod Sections
pub mod Names
pub mod Clash
pub mod Entries
pub mod Symbols
pub mod Tables
pub mod Few
pub mod Loose
pub mod Accepted
