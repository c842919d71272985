pub use Rattle.write_plan.proofs.of_merge_sections
pub use Rattle.write_plan.proofs as of_write_plan
pub mod Limits
pub mod Accepted
pub mod Numbers
