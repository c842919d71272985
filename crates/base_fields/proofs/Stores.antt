-- Bytes stored one behind the other are one write: each store is put right behind those before it. Assumes nothing.
use mathlib.Core.Path.{◌≡◌, refl, ap, ◌∙◌}
use mathlib.Core.List.{List, [], ◌∷◌}
use Prim.Native.Nat.{ℕ, ◌+◌, ◌≤◌}
use native.Mathlib.Omega.{arith}
use lib.ListN.{length, set}
use Rattle.base_lists.specs.Windows.{spliced}
use Rattle.base_lists.proofs.Windows.{spliced_one, spliced_put}

pub stored_2 : (l : List ℕ) (o a b : ℕ) → o + 2 ≤ length l → set (set l o a) (o + 1) b ≡ spliced l o (a ∷ b ∷ [])
stored_2 l o a b h = ap (λ (x : List ℕ). set x (o + 1) b) (spliced_one l o a (omega arith)) ∙ spliced_put l o (a ∷ []) (o + 1) b refl (omega arith)

pub stored_3 : (l : List ℕ) (o a b c : ℕ) → o + 3 ≤ length l → set (set (set l o a) (o + 1) b) (o + 2) c ≡ spliced l o (a ∷ b ∷ c ∷ [])
stored_3 l o a b c h =
    ap (λ (x : List ℕ). set x (o + 2) c) (stored_2 l o a b (omega arith)) ∙ spliced_put l o (a ∷ b ∷ []) (o + 2) c refl (omega arith)

pub stored_4 : (l : List ℕ) (o a b c d : ℕ) → o + 4 ≤ length l
    → set (set (set (set l o a) (o + 1) b) (o + 2) c) (o + 3) d ≡ spliced l o (a ∷ b ∷ c ∷ d ∷ [])
stored_4 l o a b c d h =
    ap (λ (x : List ℕ). set x (o + 3) d) (stored_3 l o a b c (omega arith)) ∙ spliced_put l o (a ∷ b ∷ c ∷ []) (o + 3) d refl (omega arith)
