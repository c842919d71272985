pub use Rattle.symbols_taken.proofs as of_symbols_taken
pub mod Everything
pub mod Examples
