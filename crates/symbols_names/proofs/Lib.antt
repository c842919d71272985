pub use Rattle.symbols_ids.proofs.of_symbols_taken
pub mod Tails
pub mod KindLaws
pub mod Names
