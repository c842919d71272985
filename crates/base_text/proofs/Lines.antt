-- How long a line is. Assumes nothing.
use Prim.Native.Nat.{ℕ, ◌+◌}
use mathlib.Core.Path.{◌≡◌}
use mathlib.Core.List.{List, [], ◌∷◌}
use lib.ListN.{length, length-append}
use Rattle.base_text.specs.Lines.{lined}

pub length_lined : (s : List ℕ) → length (lined s) ≡ length s + 1
unfolding lined
length_lined s = length-append s (10 ∷ [])
