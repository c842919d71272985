pub use Rattle.late_runs.proofs.of_late_moves
pub use Rattle.late_runs.proofs.of_late_lookups
pub use Rattle.late_runs.proofs.of_late_walk
pub mod Copied
