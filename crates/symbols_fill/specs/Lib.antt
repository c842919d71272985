pub use Rattle.symbols_holders.specs.of_statics_walk
pub use Rattle.symbols_holders.specs as of_symbols_holders
pub use Rattle.symbols_holders.specs.of_symbols_ids
pub use Rattle.symbols_holders.specs.of_symbols_names
pub use Rattle.symbols_holders.specs.of_symbols_taken
pub mod Fill
pub mod Stage
