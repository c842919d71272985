pub use Rattle.merge_verdict.proofs as of_merge_verdict
pub use Rattle.merge_verdict.proofs.of_write_plan
pub mod Ids
pub mod Names
pub mod Symbols
pub mod Leads
