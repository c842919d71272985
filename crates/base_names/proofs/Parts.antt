-- A name by the part of its table that is as long as a string: it is the string where that part is, holds no zero byte, and is followed by one or by the end of the table.
-- Assumes nothing.
use Prim.Native.Nat.{ℕ, ◌+◌, ◌-◌, ◌≤◌, ◌<◌}
use mathlib.Core.Path.{◌≡◌, refl, sym, ap, ◌∙◌}
use mathlib.Core.Bool.{Bool, true, false, not, ◌&&◌}
use mathlib.Core.List.{List, [], ◌∷◌}
use native.Mathlib.Omega.{arith}
use lib.ListN.{length, take, drop, get_or, get_or-eq_default}
use lib.Seq.{get_or-take, get_or-drop}
use lib.Dec.{eqb}
use borrow.Author.Tests.{eq-eqb, ne_eqb, eqb-true, eqb-false}
use Rattle.base_lists.specs.Strings.{same, zero_at, name_end, name_at}
use Rattle.base_lists.proofs.Ranges.{by-test, both, by-lt, first_over}
use Rattle.base_lists.proofs.Strings.{same_true, same_eq, same_false, same_ne, same_long, end_here, end_past, end_low, end_high, end_below, lt_has_end, end_zero, name_past, name_length, name_byte, name_nonzero}
use Rattle.base_lists.proofs.Windows.{length_part}

empty_is : (s : List ℕ) → eqb (length s) 0 ≡ same [] s
unfolding same
empty_is [] = refl
empty_is (x ∷ s) = ne_eqb (length (x ∷ s)) 0 (λ e. absurd (omega (arith, e)))

module _ (t s : List ℕ) (at : ℕ) (inside : at + length s ≤ length t) where
  abbrev part : List ℕ
  part = take (length s) (drop at t)

  part_byte : (i : ℕ) → i < length s → get_or part i 0 ≡ get_or t (at + i) 0
  part_byte i h = get_or-take (length s) (drop at t) i 0 h ∙ get_or-drop at t i 0

  part_long : length part ≡ length s
  part_long = length_part t at (length s) inside

  -- a name that is as long as the string is the part
  name_part : length (name_at t at) ≡ length s → name_at t at ≡ part
  unfolding name_at
  name_part e = ap (λ (n : ℕ). take n (drop at t)) (sym (name_length t at) ∙ e)

  part_other : same part s ≡ false → same (name_at t at) s ≡ false
  part_other f = same_ne (name_at t at) s (λ e. same_false part s f (sym (name_part (ap length e)) ∙ e))

  -- a string with another byte than zero behind it is not a name
  pub part_longer : (get_or t (at + length s) 0 ≡ 0 → ⊥) → same (name_at t at) s ≡ false
  part_longer d = same_ne (name_at t at) s (λ e.
      let q : name_end t at ≡ at + length s = omega (arith, ap length e, name_length t at, end_low t at) in
      by-lt (at + length s) (length t)
      (λ h. d (ap (λ (i : ℕ). get_or t i 0) (sym q) ∙ end_zero t at (lt_has_end t at (omega (arith, q, h)))))
      (λ h. d (get_or-eq_default t 0 h)))

  module _ (is : same part s ≡ true) where
    -- a zero byte in it ends the name before
    part_cut : (name_end part 0 ≡ length s → ⊥) → same (name_at t at) s ≡ false
    part_cut d =
        let low : name_end part 0 < length s = omega (arith, end_high part 0 (omega arith), part_long, d) in
        let zero : get_or part (name_end part 0) 0 ≡ 0 = end_zero part 0 (lt_has_end part 0 (omega (arith, low, part_long))) in
        same_ne (name_at t at) s (λ e.
        let l : name_end part 0 < length (name_at t at) = omega (arith, low, ap length e) in
        name_nonzero t at (name_end part 0) l (name_byte t at (name_end part 0) l ∙ sym (part_byte (name_end part 0) low) ∙ zero))

    -- else it ends behind it
    part_whole : name_end part 0 ≡ length s → get_or t (at + length s) 0 ≡ 0 → same (name_at t at) s ≡ true
    unfolding name_end zero_at
    part_whole e ends =
        let over : name_end t at ≡ name_end t (at + length s) =
        first_over (zero_at t) at (at + length s) (length t) (omega arith) inside (λ j l u.
        let b : at + (j - at) ≡ j = omega (arith, l) in
        ne_eqb _ _ (λ z. end_below part 0 (j - at) (omega arith) (omega (arith, e, l, u))
        (part_byte (j - at) (omega (arith, l, u)) ∙ ap (λ (i : ℕ). get_or t i 0) b ∙ z))) in
        let end : name_end t (at + length s) ≡ at + length s = by-lt (at + length s) (length t)
        (λ h. end_here t (at + length s) h ends)
        (λ h. end_past t (at + length s) h) in
        same_eq (name_at t at) s (name_part (omega (arith, over, end, name_length t at)) ∙ same_true part s is)

-- a name past the table is empty; one that has less room than the string is shorter
module _ (t s : List ℕ) (at : ℕ) where
  pub past_is : length t < at → eqb (length s) 0 ≡ same (name_at t at) s
  past_is h = rw (name_past t at (omega (arith, h))) (empty_is s)

  pub short_not : at ≤ length t → length t - at < length s → same (name_at t at) s ≡ false
  short_not l h = same_long (name_at t at) s (λ e. absurd (omega (arith, e, name_length t at, end_high t at l, h)))

-- what the two tests of the part say of the name
pub part_is : (t s : List ℕ) (at : ℕ) → at + length s ≤ length t → get_or t (at + length s) 0 ≡ 0
    → (same (take (length s) (drop at t)) s && eqb (name_end (take (length s) (drop at t)) 0) (length s)) ≡ same (name_at t at) s
part_is t s at inside ends = by-test (same (take (length s) (drop at t)) s)
    (λ is. by-test (eqb (name_end (take (length s) (drop at t)) 0) (length s))
    (λ e. rw (is, e) (sym (part_whole t s at inside is (eqb-true _ _ e) ends)))
    (λ d. rw (is, d) (sym (part_cut t s at inside is (eqb-false _ _ d)))))
    (λ f. rw f (sym (part_other t s at inside f)))

-- the same, by the part's own length
pub whole_is : (t s : List ℕ) (at n : ℕ) → n ≡ length s → at + n ≤ length t → get_or t (at + n) 0 ≡ 0
    → (same (take n (drop at t)) s && eqb (name_end (take n (drop at t)) 0) (length (take n (drop at t)))) ≡ same (name_at t at) s
whole_is t s at n e inside ends =
    let fits : at + length s ≤ length t = omega (arith, e, inside) in
    let zero : get_or t (at + length s) 0 ≡ 0 = ap (λ (k : ℕ). get_or t (at + k) 0) (sym e) ∙ ends in
    rw e (ap (λ (k : ℕ). same (part t s at fits) s && eqb (name_end (part t s at fits) 0) k) (part_long t s at fits) ∙ part_is t s at fits zero)

-- ---- tests

pub and_then : (a b : Bool) → a ≡ true → b ≡ (a && b)
and_then a b e = rw e

pub and_not : (a b : Bool) → a ≡ false → false ≡ (a && b)
and_not a b e = rw e

module _ (t : List ℕ) (i : ℕ) where
  pub past_zero : length t ≤ i → false ≡ not (zero_at t i)
  unfolding zero_at
  past_zero h = rw (get_or-eq_default t 0 h)

  pub on_not : not (zero_at t i) ≡ true → get_or t i 0 ≡ 0 → ⊥
  unfolding zero_at
  on_not n z = both n (rw (eq-eqb _ _ z))

  pub on_zero : not (zero_at t i) ≡ false → get_or t i 0 ≡ 0
  unfolding zero_at
  on_zero n = by-test (eqb (get_or t i 0) 0) (λ e. eqb-true _ _ e) (λ f. absurd (both (rw f) n))
