pub use Rattle.late_walk.specs.of_blocks_places
pub use Rattle.late_walk.specs as of_late_walk
pub use Rattle.late_walk.specs.of_blocks_items
pub use Rattle.late_walk.specs.of_late_length
pub use Rattle.late_walk.specs.of_late_moves
pub mod Fields
pub mod Lookups
