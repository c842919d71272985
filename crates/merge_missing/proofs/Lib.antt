pub use Rattle.late_length.proofs as of_late_length
pub mod Ends
pub mod Complete
