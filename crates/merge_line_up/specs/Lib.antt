pub use Rattle.merge_labels.specs as of_merge_labels
pub use Rattle.merge_missing.specs.of_merge_inputs
pub use Rattle.merge_missing.specs as of_merge_missing
pub mod LineUp
pub mod Answer
pub mod Agrees
