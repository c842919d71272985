pub use Rattle.late_blocks.proofs.of_late_length
pub use Rattle.late_blocks.proofs.of_blocks_items
pub use Rattle.late_blocks.proofs.of_late_moves
pub mod Steps
pub mod Table
pub mod Walk
pub mod Agree
