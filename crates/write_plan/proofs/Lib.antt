pub use Rattle.write_strings.proofs as of_write_strings
pub use Rattle.merge_sections.proofs.of_merge_line_up
pub use Rattle.merge_sections.proofs as of_merge_sections
pub mod Sections
pub mod Headers
pub mod Symbols
pub mod Entries
pub mod Relocations
pub mod Lengths
pub mod Fits
pub mod Names
