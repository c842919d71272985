-- Byte strings, and the zero-ended strings of a string table (gABI, "String Table").
use Rattle.std.specs.Prelude.{ℕ, ◌-◌, Bool, true, false, ◌&&◌, List, [], ◌∷◌, length, take, drop, get_or, eqb, ltb}
use Rattle.base_lists.specs.Ranges.{first}

-- whether two byte strings are equal
unfoldable pub same : List ℕ → List ℕ → Bool
same [] [] = true
same [] (y ∷ b) = false
same (x ∷ a) [] = false
same (x ∷ a) (y ∷ b) = eqb x y && same a b

-- whether a string begins with a prefix
unfoldable pub prefixed : List ℕ → List ℕ → Bool
prefixed p s = same (take (length p) s) p

-- byte i is zero
unfoldable pub zero_at : List ℕ → ℕ → Bool
zero_at t i = eqb (get_or t i 0) 0

-- where the string at `at` ends: its zero byte, or the end of the table
unfoldable pub name_end : List ℕ → ℕ → ℕ
name_end t at = first (zero_at t) at (length t)

-- the string at `at` has a zero end inside the table
unfoldable pub has_end : List ℕ → ℕ → Bool
has_end t at = ltb (name_end t at) (length t)

-- the string at `at`, without its zero byte
unfoldable pub name_at : List ℕ → ℕ → List ℕ
name_at t at = take (name_end t at - at) (drop at t)

-- byte i is over 127
unfoldable pub over_at : List ℕ → ℕ → Bool
over_at s i = ltb 127 (get_or s i 0)

-- no byte is over 127
unfoldable pub ascii : List ℕ → Bool
ascii s = eqb (first (over_at s) 0 (length s)) (length s)
