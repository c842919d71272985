pub use Rattle.symbols_holders.proofs as of_symbols_holders
pub mod Places
pub mod Origins
pub mod Filled
pub mod Entries
pub mod Candidates
