pub use Rattle.symbols_names.proofs as of_symbols_names
pub use Rattle.symbols_names.proofs.of_symbols_taken
pub mod Entries
pub mod Ids
