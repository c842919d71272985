-- Zero bytes among the bytes at a place, by where the name there ends: the turns of the loop over them, and of one that goes over a whole string n bytes at a time.
-- Assumes nothing.
use Prim.Native.Nat.{ℕ, ◌+◌, ◌≤◌, ◌<◌}
use mathlib.Core.Path.{◌≡◌, sym, ap, ◌∙◌}
use mathlib.Core.Bool.{true, false}
use mathlib.Core.List.{List}
use native.Mathlib.Omega.{arith}
use lib.ListN.{length, get_or}
use lib.Dec.{eqb, ltb}
use borrow.Author.Tests.{eq-eqb, ne_eqb, lt-ltb, le-ltb, ltb-true, ltb-false}
use Rattle.base_lists.specs.Strings.{zero_at, name_end}
use Rattle.base_lists.proofs.Ranges.{by-lt, first_over}
use Rattle.base_lists.proofs.Strings.{zero_false, end_low, end_high, end_below, lt_has_end, end_zero}

module _ (t : List ℕ) (at : ℕ) where
  end_by : (j : ℕ) → at ≤ j → get_or t j 0 ≡ 0 → name_end t at ≤ j
  end_by j l z = by-lt j (name_end t at) (λ h. absurd (end_below t at j l h z)) (λ h. h)

  pub zero_none : false ≡ ltb (name_end t at) (at + 0)
  zero_none = sym (le-ltb (name_end t at) (at + 0) (omega (arith, end_low t at)))

  pub zero_seen : (i : ℕ) → get_or t (at + i) 0 ≡ 0 → true ≡ ltb (name_end t at) (at + (i + 1))
  zero_seen i z = sym (lt-ltb (name_end t at) (at + (i + 1)) (omega (arith, end_by (at + i) (omega arith) z)))

  pub zero_unseen : (i : ℕ) → at + i < length t → (get_or t (at + i) 0 ≡ 0 → ⊥) → ltb (name_end t at) (at + i) ≡ ltb (name_end t at) (at + (i + 1))
  zero_unseen i u d = by-lt (name_end t at) (at + i)
      (λ h. lt-ltb _ _ h ∙ sym (lt-ltb (name_end t at) (at + (i + 1)) (omega (arith, h))))
      (λ h. le-ltb _ _ h ∙ sym (le-ltb (name_end t at) (at + (i + 1)) (by-lt (at + i) (name_end t at)
      (λ g. omega (arith, g))
      (λ g.
      let e : name_end t at ≡ at + i = omega (arith, g, h) in
      absurd (d (ap (λ (k : ℕ). get_or t k 0) (sym e) ∙ end_zero t at (lt_has_end t at (omega (arith, e, u)))))))))

  -- where none is among the first n bytes, the name ends where the one behind them does
  pub end_behind_free : (n : ℕ) → at + n ≤ length t → ltb (name_end t at) (at + n) ≡ false → name_end t at ≡ name_end t (at + n)
  unfolding name_end
  end_behind_free n u f =
      let far : at + n ≤ name_end t at = ltb-false _ _ f in
      first_over (zero_at t) at (at + n) (length t) (omega arith) u (λ j l h. zero_false t j (end_below t at j l (omega (arith, far, h))))

-- ---- a whole string

module _ (s : List ℕ) (i n : ℕ) where
  pub free_not : i + n ≤ length s → ltb (name_end s i) (i + n) ≡ true → false ≡ eqb (name_end s 0) (length s)
  free_not u t =
      let h : name_end s i < length s = omega (arith, u, ltb-true (name_end s i) (i + n) t) in
      let l : name_end s 0 ≤ name_end s i = end_by s 0 (name_end s i) (omega arith) (end_zero s i (lt_has_end s i h)) in
      sym (ne_eqb (name_end s 0) (length s) (λ e. absurd (omega (arith, e, h, l))))

  pub free_yes : (last : ℕ) → name_end s 0 ≡ name_end s i → last ≤ i → i ≤ length s → last + n ≡ length s → ltb (name_end s last) (last + n) ≡ false
      → true ≡ eqb (name_end s 0) (length s)
  free_yes last r l u k f =
      let far : last + n ≤ name_end s last = ltb-false _ _ f in
      let low : length s ≤ name_end s i = by-lt (name_end s i) (length s)
      (λ h. absurd (omega (arith, far, k, h, end_by s last (name_end s i) (omega (arith, l, end_low s i)) (end_zero s i (lt_has_end s i h)))))
      (λ h. h) in
      sym (eq-eqb (name_end s 0) (length s) (omega (arith, r, low, end_high s i u)))

pub free_none : (s : List ℕ) → length s ≤ 0 → true ≡ eqb (name_end s 0) (length s)
free_none s h = sym (eq-eqb (name_end s 0) (length s) (omega (arith, h, end_high s 0 (omega arith))))
