-- The laws of what a writer says: nothing written, two texts in a row as one, and the output where the whole fits. Two splices in a row are one,
-- and where both texts fit so does the first. Assumes nothing.
use Prim.Native.Nat.{ℕ, ◌+◌, ◌≤◌, ◌<◌}
use mathlib.Core.Path.{◌≡◌, refl, sym, ap, ◌∙◌}
use mathlib.Core.List.{List, [], ◌++◌}
use native.Mathlib.Nat.{add-zero}
use native.Mathlib.Omega.{arith}
use lib.ListN.{length, length-append}
use Rattle.base_lists.specs.Windows.{spliced}
use Rattle.base_lists.proofs.Windows.{spliced_nil, spliced_then}
use Rattle.base_lists.specs.Written.{Written}

-- nothing is written
pub written_none : (o : List ℕ) (at : ℕ) → Written o at [] at o
written_none o at = record { end = sym (add-zero at); long = refl; bytes = λ h. sym (spliced_nil o at) }

-- what fits and is copied, and what does not fit and is only counted
pub written_copy : (o : List ℕ) (at : ℕ) (s : List ℕ) (r : ℕ) (p : List ℕ) → r ≡ at + length s → length p ≡ length o → p ≡ spliced o at s → Written o at s r p
written_copy o at s r p e l b = record { end = e; long = l; bytes = λ h. b }

pub written_short : (o : List ℕ) (at : ℕ) (s : List ℕ) (r : ℕ) → r ≡ at + length s → length o < r → Written o at s r o
written_short o at s r e h = record { end = e; long = refl; bytes = λ g. absurd (omega arith) }

-- one text behind another
pub written_then : (o : List ℕ) (at : ℕ) (s : List ℕ) (r : ℕ) (p t : List ℕ) (q : ℕ) (u : List ℕ) → Written o at s r p → Written p r t q u → Written o at (s ++ t) q u
written_then o at s r p t q u a b =
    let n : length (s ++ t) ≡ length s + length t = length-append s t in
    record {
      end = omega (arith, a.end, b.end, n);
      long = b.long ∙ a.long;
      bytes = λ h.
          let f : r + length t ≤ length o = omega (arith, a.end, n) in
          b.bytes (omega (arith, a.long))
          ∙ ap (λ (x : List ℕ). spliced x r t) (a.bytes (omega (arith, a.end)))
          ∙ spliced_then o at s t r a.end f;
    }

-- the same text by another name
pub written_as : (o : List ℕ) (at : ℕ) (s t : List ℕ) (r : ℕ) (p : List ℕ) → s ≡ t → Written o at s r p → Written o at t r p
written_as o at s t r p e w = rw e at w

-- where the end lies in the output, the text stands there and the rest is as it was
pub written_whole : (o : List ℕ) (at : ℕ) (s : List ℕ) (r : ℕ) (p : List ℕ) → Written o at s r p → r ≤ length o → p ≡ spliced o at s
written_whole o at s r p w h = w.bytes (omega (arith, w.end))
