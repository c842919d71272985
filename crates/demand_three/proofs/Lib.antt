pub use Rattle.demand_bytes.proofs as of_demand_bytes
pub use Rattle.demand_bytes.proofs.of_merge_verdict
pub mod Theorem
