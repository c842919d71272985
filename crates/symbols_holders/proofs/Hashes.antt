-- The hash of a working name's tail, `:` and the count, byte by byte from its last. Assumes nothing.
use Prim.Native.Nat.{ℕ, min, ◌+◌, ◌-◌, ◌*◌, ◌%◌, ◌<◌}
use mathlib.Core.Path.{◌≡◌, sym, ap, ◌∙◌}
use mathlib.Core.List.{List}
use native.Mathlib.Omega.{arith}
use lib.ListN.{length, get_or, take}
use Rattle.base_index.specs.Index.{ROUND, mixed_at, mixed}
use Rattle.base_index.proofs.Hashes.{mixed_join, mixed_one, mixed_none, mixed_late, mixed_taken}

module _ (s : List ℕ) (room : ℕ) where
  -- no byte is in the sum yet
  pub tail_none : (n : ℕ) → n ≡ min room (length s) → mixed (take room s) 0 ≡ mixed_at s 0 n 0
  tail_none n e = mixed_taken s room 0 ∙ ap (λ (k : ℕ). mixed_at s 0 k 0) (sym e)

  -- byte i - 1 goes before the sum g of those from i on
  pub tail_next : (i g r x : ℕ) → 0 < i → r % ROUND ≡ (x + 256 * g) % ROUND → x ≡ get_or s (i - 1) 0 → mixed (take room s) 0 ≡ mixed_at s 0 i g → mixed (take room s) 0 ≡ mixed_at s 0 (i - 1) r
  tail_next i g r x l told is e =
      let k : i ≡ i - 1 + 1 = omega arith in
      let z : 0 + (i - 1) ≡ i - 1 = omega arith in
      e
      ∙ ap (λ (n : ℕ). mixed_at s 0 n g) k
      ∙ mixed_join s 0 (i - 1) 1 g
      ∙ ap (mixed_at s 0 (i - 1)) (ap (λ (n : ℕ). mixed_at s n 1 g) z ∙ mixed_one s (i - 1) g ∙ sym (told ∙ ap (λ (y : ℕ). (y + 256 * g) % ROUND) is))
      ∙ mixed_late s 0 (i - 1) r

  -- all are
  pub tail_all : (i g : ℕ) → i ≡ 0 → mixed (take room s) 0 ≡ mixed_at s 0 i g → mixed (take room s) 0 ≡ g % ROUND
  tail_all i g z e = e ∙ ap (λ (n : ℕ). mixed_at s 0 n g) z ∙ mixed_none s 0 g
