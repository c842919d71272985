-- Bytes as pieces, one behind the other: a piece for each offset at which one begins.
use Rattle.std.specs.Prelude.{ℕ, zero, suc, ◌+◌, List, [], ◌∷◌, ltb}
use Rattle.base_lists.specs.Ranges.{pick_list}

-- of m bytes, the pieces from offset k on, n at most; `piece k` is the one that begins at k, and `long` says how many bytes it has
unfoldable pub pieces_from : {R : Type 0} → (ℕ → R) → (R → ℕ) → ℕ → ℕ → ℕ → List R
pieces_from piece long m k zero = []
pieces_from piece long m k (suc n) = pick_list (ltb k m) (piece k ∷ pieces_from piece long m (k + long (piece k)) n) []
