-- Of the code, not of document 01: the tables of a lent buffer, one behind the other.
use Rattle.std.specs.Prelude.{ℕ, ◌≡◌, List, length, take, drop}

-- the part of `size` bytes that starts at `at`, and what stands before `at`
unfoldable pub part_at : ℕ → ℕ → List ℕ → List ℕ
part_at at size l = take size (drop at l)

unfoldable pub front_of : ℕ → List ℕ → List ℕ
front_of at l = take at l

-- what stands before `at` stays, and so does the length
pub record KeptBefore (at : ℕ) (before after : List ℕ) : Type 0 where
  pub front : front_of at after ≡ front_of at before
  pub long : length after ≡ length before
