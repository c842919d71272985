-- A list that stands inside another, and a list with a part overwritten.
use Rattle.std.specs.Prelude.{ℕ, ◌+◌, ◌≡◌, List, ◌++◌, length, take, drop}

-- b stands in l from o on
pub record Within (b : List ℕ) (o : ℕ) (l : List ℕ) : Type 0 where
  pub front : List ℕ
  pub rest : List ℕ
  pub whole : l ≡ front ++ (b ++ rest)
  pub starts : length front ≡ o

-- l with b written over it from o on
unfoldable pub spliced : List ℕ → ℕ → List ℕ → List ℕ
spliced l o b = take o l ++ (b ++ drop (o + length b) l)
