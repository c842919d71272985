pub use Rattle.late_length.specs.of_blocks_places
pub use Rattle.late_length.specs.of_blocks_items
pub use Rattle.late_length.specs as of_late_length
pub mod Moves
pub mod Moved
