pub use Rattle.late_lookups.specs.of_late_walk
pub use Rattle.late_lookups.specs.of_late_moves
pub use Rattle.late_lookups.specs.of_late_length
pub use Rattle.late_lookups.specs as of_late_lookups
pub mod Runs
pub mod Words
