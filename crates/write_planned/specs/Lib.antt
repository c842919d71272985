pub use Rattle.carry_stage.specs as of_carry_stage
pub use Rattle.write_plan.specs as of_write_plan
pub mod Held
pub mod Tables
pub mod OwnKinds
pub mod Headings
