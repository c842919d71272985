pub use Rattle.symbols_glabels.specs as of_symbols_glabels
pub use Rattle.symbols_names.specs.of_statics_walk
pub use Rattle.symbols_names.specs.of_symbols_ids
pub use Rattle.symbols_names.specs.of_symbols_taken
pub mod Entries
pub mod Ids
