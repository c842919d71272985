pub use Rattle.late_lookups.specs.of_blocks_items
pub use Rattle.merge_inputs.specs.of_elf_check
pub use Rattle.merge_labels.specs as of_merge_labels
pub use Rattle.late_lookups.specs as of_late_lookups
pub use Rattle.late_lookups.specs.of_late_moves
pub use Rattle.late_lookups.specs.of_late_walk
pub mod Used
pub mod Taken
pub mod Passed
pub mod Code
