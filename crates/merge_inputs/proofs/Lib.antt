pub use Rattle.elf_check.proofs as of_elf_check
pub mod Reading
