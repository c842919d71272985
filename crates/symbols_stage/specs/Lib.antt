pub use Rattle.symbols_table.specs.of_merge_sections
pub mod Stage
pub mod Verdict
pub mod End
