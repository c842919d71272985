pub use Rattle.late_moves.specs as of_late_moves
pub use Rattle.late_moves.specs.of_late_length
pub mod Finals
