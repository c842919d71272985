pub use Rattle.symbols_table.proofs as of_symbols_table
pub mod Content
