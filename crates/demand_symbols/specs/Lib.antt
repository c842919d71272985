pub use Rattle.demand_clauses.specs as of_demand_clauses
pub use Rattle.merge_verdict.specs as of_merge_verdict
pub use Rattle.merge_verdict.specs.of_symbols_stage
pub use Rattle.merge_verdict.specs.of_write_plan
