pub use Rattle.symbols_chain.proofs.of_merge_sections
pub use Rattle.symbols_chain.proofs as of_symbols_chain
pub use Rattle.symbols_chain.proofs.of_symbols_fill
pub use Rattle.symbols_entries.proofs.of_symbols_taken
pub mod Entries
pub mod Indices
pub mod Table
