-- Of the code, not of document 01: a name that cannot be a given string, by one byte.
use Rattle.std.specs.Prelude.{ℕ, ◌+◌, ◌-◌, Bool, not, ◌&&◌, List, length, get_or, eqb, leb, ltb}

-- table t has another byte where the last one of s would stand, were s at `at`
unfoldable pub ends_apart : List ℕ → ℕ → List ℕ → Bool
ends_apart t at s = ltb 0 (length s) && (leb (at + length s) (length t) && not (eqb (get_or t (at + (length s - 1)) 0) (get_or s (length s - 1) 0)))
