pub use Rattle.symbols_fill.proofs as of_symbols_fill
pub use Rattle.carry_clash.proofs.of_symbols_taken
pub mod Goals
pub mod Entries
pub mod InHand
pub mod Positions
