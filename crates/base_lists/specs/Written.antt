-- What every writer of a text says: where the text after it starts, and what the output then holds. Where the text does not fit, it is counted
-- and not written, so that the length needed comes out of the same pass (refusal 21).
use Rattle.std.specs.Prelude.{ℕ, ◌+◌, ◌≤◌, List, ◌≡◌, length}
use Rattle.base_lists.specs.Windows.{spliced}

-- s was written at `at` of `before`: r is the end, `after` the output
pub record Written (before : List ℕ) (at : ℕ) (s : List ℕ) (r : ℕ) (after : List ℕ) : Type 0 where
  pub end : r ≡ at + length s
  pub long : length after ≡ length before
  pub bytes : at + length s ≤ length before → after ≡ spliced before at s
