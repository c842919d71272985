pub use Rattle.merge_sections.specs.of_merge_inputs
pub use Rattle.merge_sections.specs as of_merge_sections
pub use Rattle.symbols_fill.specs as of_symbols_fill
pub use Rattle.symbols_fill.specs.of_symbols_holders
pub mod Chain
