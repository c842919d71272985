pub use Rattle.late_runs.specs.of_late_moves
pub use Rattle.late_runs.specs.of_late_length
pub use Rattle.late_runs.specs.of_late_lookups
pub use Rattle.late_runs.specs.of_late_walk
