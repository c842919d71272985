pub use Rattle.carry_entries.specs as of_carry_entries
pub use Rattle.carry_entries.specs.of_symbols_fill
pub use Rattle.symbols_stage.specs as of_symbols_stage
pub mod Tables
pub mod Carry
