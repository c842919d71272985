pub use Rattle.write_plan.specs.of_carry_entries
pub use Rattle.write_plan.specs.of_merge_sections
pub use Rattle.symbols_stage.specs as of_symbols_stage
pub use Rattle.write_plan.specs as of_write_plan
pub mod Verdict
