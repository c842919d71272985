-- Two byte strings by their parts: equal where their first n bytes are and what is behind them is; the turns of the loops that compare n bytes at a time, and the bytes of
-- such a part; a string that is a front and a back. Assumes nothing.
use Prim.Native.Nat.{ℕ, ◌+◌, ◌-◌, ◌≤◌, ◌<◌}
use mathlib.Core.Path.{◌≡◌, sym, ap, ◌∙◌}
use mathlib.Core.Bool.{true, false}
use mathlib.Core.List.{List, [], ◌∷◌, ◌++◌}
use native.Mathlib.Omega.{arith}
use lib.ListN.{length, take, drop, get_or, length-drop, take-append-drop}
use lib.Seq.{take_all, take-take, take-append_seam, drop-append_seam, drop-drop, get_or-take, get_or-drop}
use Rattle.base_lists.specs.Strings.{same}
use Rattle.base_lists.proofs.Ranges.{by-test}
use Rattle.base_lists.proofs.Strings.{same_true, same_eq, same_false, same_ne}
use Rattle.base_lists.proofs.Windows.{take_next}

joins : (p q r s : List ℕ) → p ≡ q → r ≡ s → p ++ r ≡ q ++ s
joins p q r s e f = rw (e, f)

pub same_behind : (a b : List ℕ) (n : ℕ) → same (take n a) (take n b) ≡ true → same a b ≡ same (drop n a) (drop n b)
same_behind a b n t = by-test (same (drop n a) (drop n b))
    (λ r. same_eq a b (sym (take-append-drop n a) ∙ joins _ _ _ _ (same_true _ _ t) (same_true _ _ r) ∙ take-append-drop n b) ∙ sym r)
    (λ f. same_ne a b (λ e. same_false _ _ f (ap (drop n) e)) ∙ sym f)

-- ---- n bytes at a time

module _ (a b : List ℕ) (i n : ℕ) where
  pub part_next : same (take n (drop i a)) (take n (drop i b)) ≡ true → same (drop i a) (drop i b) ≡ same (drop (i + n) a) (drop (i + n) b)
  part_next t = rw (← drop-drop n i a, ← drop-drop n i b) (same_behind (drop i a) (drop i b) n t)

  pub part_apart : same (take n (drop i a)) (take n (drop i b)) ≡ false → same a b ≡ false
  part_apart f = same_ne a b (λ e. same_false _ _ f (ap (λ (l : List ℕ). take n (drop i l)) e))

module _ (a b : List ℕ) (last i n : ℕ) (p : last + n ≡ length a) (q : last + n ≡ length b) (k : last ≤ i) where
  ends_alike : same (take n (drop last a)) (take n (drop last b)) ≡ true → drop i a ≡ drop i b
  ends_alike t =
      let u : length (drop last a) ≤ n = omega (arith, length-drop last a, p) in
      let v : length (drop last b) ≤ n = omega (arith, length-drop last b, q) in
      let e : drop last a ≡ drop last b = sym (take_all n (drop last a) u) ∙ same_true _ _ t ∙ take_all n (drop last b) v in
      let m : last + (i - last) ≡ i = omega (arith, k) in
      rw (← m) (sym (drop-drop (i - last) last a) ∙ ap (drop (i - last)) e ∙ drop-drop (i - last) last b)

  -- what is left is among the last n bytes
  pub part_last : same a b ≡ same (drop i a) (drop i b) → same (take n (drop last a)) (take n (drop last b)) ≡ same a b
  part_last r = by-test (same (take n (drop last a)) (take n (drop last b)))
      (λ t. t ∙ sym (r ∙ same_eq _ _ (ends_alike t)))
      (λ f. f ∙ sym (part_apart a b last n f))

-- ---- the bytes of a part

module _ (a b : List ℕ) (at i : ℕ) where
  pub byte_apart : (get_or a (at + i) 0 ≡ get_or b (at + i) 0 → ⊥) → same (take (i + 1) (drop at a)) (take (i + 1) (drop at b)) ≡ false
  byte_apart d =
      let h : i < i + 1 = omega arith in
      same_ne _ _ (λ e. d (sym (get_or-drop at a i 0) ∙ sym (get_or-take (i + 1) (drop at a) i 0 h) ∙ ap (λ (l : List ℕ). get_or l i 0) e ∙ get_or-take (i + 1) (drop at b) i 0 h ∙ get_or-drop at b i 0))

  pub byte_next : at + i < length a → at + i < length b → get_or a (at + i) 0 ≡ get_or b (at + i) 0
      → same (take i (drop at a)) (take i (drop at b)) ≡ same (take (i + 1) (drop at a)) (take (i + 1) (drop at b))
  byte_next h k e =
      let p : i < length (drop at a) = omega (arith, h, length-drop at a) in
      let q : i < length (drop at b) = omega (arith, k, length-drop at b) in
      let x : get_or (drop at a) i 0 ≡ get_or (drop at b) i 0 = get_or-drop at a i 0 ∙ e ∙ sym (get_or-drop at b i 0) in
      let l : i ≤ i + 1 = omega arith in
      by-test (same (take i (drop at a)) (take i (drop at b)))
      (λ t. t ∙ sym (same_eq _ _
      (take_next (drop at a) i 0 p ∙ joins _ _ _ _ (same_true _ _ t) (ap (λ (y : ℕ). y ∷ []) x) ∙ sym (take_next (drop at b) i 0 q))))
      (λ f. f ∙ sym (same_ne _ _ (λ m. same_false _ _ f (sym (take-take i (i + 1) (drop at a) l) ∙ ap (take i) m ∙ take-take i (i + 1) (drop at b) l))))

-- ---- a front and a back

module _ (p front back : List ℕ) where
  pub joined_not : same (take (length front) p) front ≡ false → same p (front ++ back) ≡ false
  joined_not f = same_ne _ _ (λ e. same_false _ _ f (ap (take (length front)) e ∙ take-append_seam front back))

  pub joined_behind : same (take (length front) p) front ≡ true → same (drop (length front) p) back ≡ same p (front ++ back)
  joined_behind t = sym
      (same_behind p (front ++ back) (length front) (same_eq _ _ (same_true _ _ t ∙ sym (take-append_seam front back)))
      ∙ ap (same (drop (length front) p)) (drop-append_seam front back))
