pub use Rattle.blocks_items.proofs as of_blocks_items
pub mod Late
