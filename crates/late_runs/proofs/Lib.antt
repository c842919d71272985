pub use Rattle.late_lookups.proofs.of_late_walk
pub use Rattle.late_lookups.proofs.of_late_moves
pub use Rattle.late_lookups.proofs as of_late_lookups
pub mod Runs
pub mod Words
pub mod InHand
pub mod Agree
