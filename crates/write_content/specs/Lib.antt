pub use Rattle.symbols_table.specs.of_symbols_chain
pub use Rattle.symbols_table.specs as of_symbols_table
pub mod Content
