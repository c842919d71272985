pub use Rattle.late_walk.proofs.of_blocks_items
pub use Rattle.late_walk.proofs as of_late_walk
pub use Rattle.late_walk.proofs.of_late_moves
pub mod Fields
pub mod Lookups
