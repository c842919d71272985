pub use Rattle.symbols_taken.proofs.of_late_lookups
pub use Rattle.symbols_taken.proofs as of_symbols_taken
pub mod Cut
pub mod Joined
