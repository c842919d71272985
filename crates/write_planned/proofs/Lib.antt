pub use Rattle.carry_stage.proofs as of_carry_stage
pub use Rattle.write_plan.proofs as of_write_plan
pub mod Held
pub mod Tables
pub mod OwnKinds
pub mod Own
pub mod Planned
pub mod Headings
