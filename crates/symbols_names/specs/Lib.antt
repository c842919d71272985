pub use Rattle.symbols_ids.specs.of_statics_symbols
pub use Rattle.symbols_ids.specs.of_merge_labels
pub use Rattle.symbols_ids.specs.of_statics_walk
pub use Rattle.symbols_ids.specs as of_symbols_ids
pub use Rattle.symbols_ids.specs.of_symbols_taken
pub mod Names
