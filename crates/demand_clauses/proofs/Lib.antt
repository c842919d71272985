pub use Rattle.carry_entries.proofs.of_symbols_fill
pub mod Codes
pub mod Owed
pub mod References
