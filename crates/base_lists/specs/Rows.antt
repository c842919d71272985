-- A search over pairs: rows below n, and in row i the indices below m i. The first row with an index that passes, and the first such index in it.
use Rattle.std.specs.Prelude.{ℕ, Bool, ltb}
use Rattle.base_lists.specs.Ranges.{first}

module _ (p : ℕ → ℕ → Bool) (m : ℕ → ℕ) where
  -- the first index of row i that passes; m i where none does
  unfoldable pub index_in : ℕ → ℕ
  index_in i = first (p i) 0 (m i)

  unfoldable pub has_index : ℕ → Bool
  has_index i = ltb (index_in i) (m i)

  -- the first row that has one; n where none does
  unfoldable pub row_in : ℕ → ℕ
  row_in n = first has_index 0 n

  -- the index found in it
  unfoldable pub column_in : ℕ → ℕ
  column_in n = index_in (row_in n)

  unfoldable pub has_row : ℕ → Bool
  has_row n = ltb (row_in n) n
