pub use Rattle.late_blocks.specs.of_blocks_places
pub use Rattle.late_blocks.specs.of_blocks_items
pub use Rattle.late_blocks.specs.of_late_length
pub use Rattle.late_blocks.specs.of_late_moves
pub mod Steps
pub mod Table
