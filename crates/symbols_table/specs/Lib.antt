pub use Rattle.symbols_chain.specs.of_merge_inputs
pub use Rattle.symbols_chain.specs.of_merge_sections
pub use Rattle.symbols_chain.specs as of_symbols_chain
pub use Rattle.symbols_chain.specs.of_symbols_fill
pub use Rattle.symbols_chain.specs.of_symbols_holders
pub use Rattle.symbols_entries.specs.of_symbols_ids
pub use Rattle.symbols_entries.specs.of_symbols_taken
pub mod Table
pub mod Stage
