pub use Rattle.merge_sections.specs.of_merge_missing
pub use Rattle.merge_sections.specs.of_merge_line_up
pub use Rattle.carry_entries.specs.of_carry_clash
pub use Rattle.carry_entries.specs as of_carry_entries
pub use Rattle.merge_sections.specs as of_merge_sections
pub use Rattle.carry_entries.specs.of_symbols_taken
pub mod Plan
pub mod Tables
pub mod Names
pub mod Answer
