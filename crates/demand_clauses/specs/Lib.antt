pub use Rattle.carry_entries.specs as of_carry_entries
pub mod Reading
pub mod TakenOver
pub mod Demand
