pub use Rattle.carry_clash.specs as of_carry_clash
pub use Rattle.symbols_fill.specs as of_symbols_fill
pub use Rattle.symbols_fill.specs.of_symbols_ids
pub use Rattle.carry_clash.specs.of_symbols_taken
pub mod Entries
pub mod Carried
pub mod Code
pub mod InHand
pub mod Positions
