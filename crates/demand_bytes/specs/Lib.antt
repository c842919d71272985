pub use Rattle.demand_clauses.specs.of_carry_entries
pub use Rattle.demand_clauses.specs as of_demand_clauses
pub use Rattle.merge_verdict.specs as of_merge_verdict
