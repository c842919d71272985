pub use Rattle.merge_verdict.proofs as of_merge_verdict
pub mod Stages
