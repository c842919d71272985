pub use Rattle.symbols_names.specs.of_statics_symbols
pub use Rattle.symbols_names.specs.of_merge_labels
pub use Rattle.symbols_names.specs.of_statics_walk
pub use Rattle.symbols_names.specs.of_symbols_ids
pub use Rattle.symbols_names.specs as of_symbols_names
pub use Rattle.symbols_names.specs.of_symbols_taken
pub mod Ready
