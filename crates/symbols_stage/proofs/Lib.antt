pub use Rattle.symbols_table.proofs.of_merge_sections
pub mod Stage
pub mod End
