pub use Rattle.merge_inputs.proofs.of_elf_check
pub use Rattle.late_lookups.proofs as of_late_lookups
pub mod Marks
pub mod Sections
pub mod Prefixes
pub mod Symbols
pub mod Faults
pub mod InHand
pub mod Passed
