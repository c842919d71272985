pub use Rattle.blocks_places.specs as of_blocks_places
pub use Rattle.elf_check.specs as of_elf_check
pub mod Verdict
pub mod Taken
