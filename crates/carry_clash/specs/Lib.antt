pub use Rattle.symbols_taken.specs.of_merge_labels
pub use Rattle.symbols_taken.specs.of_late_moves
pub use Rattle.symbols_taken.specs.of_late_lookups
pub use Rattle.symbols_taken.specs.of_late_walk
pub use Rattle.symbols_taken.specs as of_symbols_taken
pub mod Clash
