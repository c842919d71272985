pub use Rattle.merge_verdict.specs as of_merge_verdict
pub mod Merged
pub mod Path
