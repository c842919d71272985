pub use Rattle.write_planned.proofs.of_carry_stage
pub mod Plans
pub mod Merged
