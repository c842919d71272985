pub use Rattle.write_planned.specs.of_carry_stage
pub use Rattle.write_planned.specs as of_write_planned
pub mod Merged
