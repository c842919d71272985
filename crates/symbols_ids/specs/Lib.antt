pub use Rattle.statics_entry.specs as of_statics_entry
pub use Rattle.statics_symbols.specs as of_statics_symbols
pub use Rattle.symbols_taken.specs.of_merge_labels
pub use Rattle.statics_walk.specs as of_statics_walk
pub use Rattle.symbols_taken.specs as of_symbols_taken
pub mod Entries
pub mod Ids
pub mod Table
