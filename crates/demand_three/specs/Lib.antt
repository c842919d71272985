pub use Rattle.demand_bytes.specs.of_merge_verdict
