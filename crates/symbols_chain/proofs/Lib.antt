pub use Rattle.merge_sections.proofs as of_merge_sections
pub use Rattle.symbols_fill.proofs as of_symbols_fill
pub mod Chain
pub mod Result
pub mod Stage
