pub use Rattle.late_length.specs as of_late_length
pub use Rattle.merge_inputs.specs as of_merge_inputs
pub mod Missing
pub mod Ends
pub mod Complete
