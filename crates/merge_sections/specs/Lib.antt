pub use Rattle.merge_line_up.specs.of_merge_inputs
pub use Rattle.merge_line_up.specs.of_merge_missing
pub use Rattle.merge_line_up.specs as of_merge_line_up
pub mod Sections
pub mod Stages
