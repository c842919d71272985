pub use Rattle.blocks_file.specs as of_blocks_file
pub use Rattle.blocks_places.specs as of_blocks_places
pub use Rattle.blocks_items.specs as of_blocks_items
pub mod Late
