pub use Rattle.late_length.proofs as of_late_length
pub use Rattle.late_length.proofs.of_blocks_items
pub mod Moves
pub mod Moved
pub mod Agree
pub mod Idle
pub mod Examples
