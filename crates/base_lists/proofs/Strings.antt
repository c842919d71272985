-- The laws of byte strings and of the zero-ended strings of a string table: equality and prefixes, the turns of the loops that decide them,
-- where a name ends, and which names a table keeps when another is appended to it. Assumes nothing.
use Prim.Native.Nat.{ℕ, suc, ◌+◌, ◌-◌, ◌≤◌, ◌<◌}
use mathlib.Core.Path.{◌≡◌, refl, sym, ap, ◌∙◌}
use mathlib.Core.Bool.{true, false}
use mathlib.Core.List.{List, [], ◌∷◌, ◌++◌}
use native.Mathlib.Nat.{sub-zero}
use native.Mathlib.Omega.{arith}
use lib.ListN.{length, take, drop, get_or, length-append, length-drop, drop_of_length-le, take-append-drop, get_or-append, get_or-eq_default}
use lib.Seq.{take_all, take-nil, take-append-le, take-append_seam, drop-append-le, drop-append-add, get_or-append-add, get_or-append_seam, get_or-take, get_or-drop, length-take-le}
use lib.Dec.{eqb, ltb}
use borrow.Author.Tests.{eq-eqb, ne_eqb, eqb-true, eqb-false, lt-ltb, le-ltb, ltb-true, ltb-false}
use Rattle.base_lists.specs.Ranges.{first, past_last}
use Rattle.base_lists.specs.Strings.{same, prefixed, zero_at, name_end, has_end, name_at, over_at, ascii}
use Rattle.base_lists.proofs.Ranges.{by-test, both, by-lt, first_here, first_next, first_end, first_is, first_unique, first_low_lem, first_high, first_none, none_first, first_more, first_ext, first_shift, first_past}
use Rattle.base_lists.proofs.Windows.{drop_next}

-- ---- equal byte strings

pub same_refl : (a : List ℕ) → same a a ≡ true
unfolding same
same_refl [] = refl
same_refl (x ∷ a) = rw (eq-eqb x x refl, same_refl a)

pub same_true : (a b : List ℕ) → same a b ≡ true → a ≡ b
unfolding same
same_true [] [] t = refl
same_true [] (y ∷ b) t = both t refl
same_true (x ∷ a) [] t = both t refl
same_true (x ∷ a) (y ∷ b) t = by-test (eqb x y)
    (λ e.
    let p : x ≡ y = eqb-true x y e in
    let q : a ≡ b = same_true a b (rw e at t) in
    cc)
    (λ e. both t (rw e))

pub same_eq : (a b : List ℕ) → a ≡ b → same a b ≡ true
same_eq a b e = rw (← e) (same_refl a)

pub same_false : (a b : List ℕ) → same a b ≡ false → a ≡ b → ⊥
same_false a b f e = both (same_eq a b e) f

pub same_ne : (a b : List ℕ) → (a ≡ b → ⊥) → same a b ≡ false
same_ne a b d = by-test (same a b) (λ t. absurd (d (same_true a b t))) (λ f. f)

pub same_sym : (a b : List ℕ) → same a b ≡ same b a
same_sym a b = by-test (same a b)
    (λ t. t ∙ sym (same_eq b a (sym (same_true a b t))))
    (λ f. f ∙ sym (same_ne b a (λ e. same_false a b f (sym e))))

pub same_long : (a b : List ℕ) → (length a ≡ length b → ⊥) → same a b ≡ false
same_long a b d = same_ne a b (λ e. d (ap length e))

-- the turns of a loop that compares byte i of each
module _ (a b : List ℕ) (i : ℕ) where
  pub same_next : i < length a → i < length b → get_or a i 0 ≡ get_or b i 0 → same (drop i a) (drop i b) ≡ same (drop (i + 1) a) (drop (i + 1) b)
  unfolding same
  same_next h k e = rw (drop_next a i 0 h, drop_next b i 0 k, eq-eqb _ _ e)

  pub same_not : i < length a → i < length b → (get_or a i 0 ≡ get_or b i 0 → ⊥) → same (drop i a) (drop i b) ≡ false
  unfolding same
  same_not h k d = rw (drop_next a i 0 h, drop_next b i 0 k, ne_eqb _ _ d)

  pub same_end : length a ≤ i → length b ≤ i → same (drop i a) (drop i b) ≡ true
  same_end h k = same_eq _ _ (drop_of_length-le a h ∙ sym (drop_of_length-le b k))

pub prefixed_true : (p s : List ℕ) → prefixed p s ≡ true → s ≡ p ++ drop (length p) s
unfolding prefixed
prefixed_true p s t =
    let e : take (length p) s ≡ p = same_true _ _ t in
    sym (take-append-drop (length p) s) ∙ ap (λ l. l ++ drop (length p) s) e

pub prefixed_short : (p s : List ℕ) → length s < length p → prefixed p s ≡ false
unfolding prefixed
prefixed_short p s h = same_long _ _ (λ e. let k : length s ≡ length p = rw (take_all (length p) s (omega arith)) at e in omega arith)

pub prefixed_append : (p s : List ℕ) → prefixed p (p ++ s) ≡ true
unfolding prefixed
prefixed_append p s = same_eq _ _ (take-append_seam p s)

-- ---- where a name ends

module _ (t : List ℕ) where
  pub zero_true : (i : ℕ) → get_or t i 0 ≡ 0 → zero_at t i ≡ true
  unfolding zero_at
  zero_true i z = eq-eqb _ _ z

  pub zero_false : (i : ℕ) → (get_or t i 0 ≡ 0 → ⊥) → zero_at t i ≡ false
  unfolding zero_at
  zero_false i z = ne_eqb _ _ z

  pub true_zero : (i : ℕ) → zero_at t i ≡ true → get_or t i 0 ≡ 0
  unfolding zero_at
  true_zero i e = eqb-true _ _ e

  pub false_zero : (i : ℕ) → zero_at t i ≡ false → get_or t i 0 ≡ 0 → ⊥
  unfolding zero_at
  false_zero i e = eqb-false _ _ e

  -- the turns of a loop that looks for the zero byte
  pub end_here : (i : ℕ) → i < length t → get_or t i 0 ≡ 0 → name_end t i ≡ i
  unfolding name_end
  end_here i h z = first_here (zero_at t) i (length t) h (zero_true i z)

  pub end_next : (i : ℕ) → i < length t → (get_or t i 0 ≡ 0 → ⊥) → name_end t i ≡ name_end t (i + 1)
  unfolding name_end
  end_next i h z = first_next (zero_at t) i (length t) h (zero_false i z)

  pub end_past : (i : ℕ) → length t ≤ i → name_end t i ≡ i
  unfolding name_end
  end_past i h = first_end (zero_at t) i (length t) h

  pub end_low : (at : ℕ) → at ≤ name_end t at
  unfolding name_end
  end_low at = first_low_lem (zero_at t) at (length t)

  pub end_high : (at : ℕ) → at ≤ length t → name_end t at ≤ length t
  unfolding name_end
  end_high at h = first_high (zero_at t) at (length t) h

  pub end_below : (at i : ℕ) → at ≤ i → i < name_end t at → get_or t i 0 ≡ 0 → ⊥
  unfolding name_end
  end_below at i l u = by-lt (length t) at
      (λ h. let e = first_end (zero_at t) at (length t) (omega arith) in absurd (omega (arith, e)))
      (λ h. false_zero i ((first_is (zero_at t) at (length t) h).below i l u))

  pub has_end_lt : (at : ℕ) → has_end t at ≡ true → name_end t at < length t
  unfolding has_end
  has_end_lt at e = ltb-true _ _ e

  pub lt_has_end : (at : ℕ) → name_end t at < length t → has_end t at ≡ true
  unfolding has_end
  lt_has_end at h = lt-ltb _ _ h

  -- a name has its zero end exactly where it starts below the place past the last zero byte
  pub has_end_past : (at : ℕ) → has_end t at ≡ ltb at (past_last (zero_at t) (length t))
  unfolding has_end name_end
  has_end_past at = first_past (zero_at t) at (length t)

  pub end_zero : (at : ℕ) → has_end t at ≡ true → get_or t (name_end t at) 0 ≡ 0
  unfolding has_end name_end
  end_zero at e =
      let h : first (zero_at t) at (length t) < length t = ltb-true _ _ e in
      let l : at ≤ length t = omega (arith, first_low_lem (zero_at t) at (length t)) in
      true_zero _ ((first_is (zero_at t) at (length t) l).here h)

  -- ---- the name

  -- the turns of a loop along a name
  pub name_cons : (at : ℕ) → at < length t → (get_or t at 0 ≡ 0 → ⊥) → name_at t at ≡ get_or t at 0 ∷ name_at t (at + 1)
  unfolding name_at
  name_cons at h z =
      let k : name_end t (at + 1) - at ≡ suc (name_end t (at + 1) - (at + 1)) = omega (arith, end_low (at + 1)) in
      rw (end_next at h z, k, drop_next t at 0 h)

  pub name_past : (at : ℕ) → length t ≤ at → name_at t at ≡ []
  unfolding name_at
  name_past at h = rw (drop_of_length-le t h, take-nil)

  pub name_nil : (at : ℕ) → get_or t at 0 ≡ 0 → name_at t at ≡ []
  unfolding name_at
  name_nil at z = by-lt at (length t)
      (λ h. let k : name_end t at - at ≡ 0 = omega (arith, end_here at h z) in rw k)
      (name_past at)

  pub name_length : (at : ℕ) → length (name_at t at) ≡ name_end t at - at
  unfolding name_at
  name_length at = by-lt (length t) at
      (λ h. let e = end_past at (omega arith) in ap length (name_past at (omega arith)) ∙ omega (arith, e))
      (λ h. length-take-le (name_end t at - at) (drop at t) (rw length-drop (omega (arith, end_high at h))))

  -- no name is longer than its table
  pub name_short : (at : ℕ) → length (name_at t at) ≤ length t
  name_short at = by-lt (length t) at
      (λ h. rw (name_past at (omega arith)) (omega arith))
      (λ h. omega (arith, name_length at, end_high at h))

  pub name_byte : (at i : ℕ) → i < length (name_at t at) → get_or (name_at t at) i 0 ≡ get_or t (at + i) 0
  unfolding name_at
  name_byte at i h =
      let k : i < name_end t at - at = rw (name_length at) at h in
      get_or-take (name_end t at - at) (drop at t) i 0 k ∙ get_or-drop at t i 0

  pub name_nonzero : (at i : ℕ) → i < length (name_at t at) → get_or (name_at t at) i 0 ≡ 0 → ⊥
  name_nonzero at i h z =
      let k : i < name_end t at - at = rw (name_length at) at h in
      end_below at (at + i) (omega arith) (omega arith) (sym (name_byte at i h) ∙ z)

  -- a name that has its end is followed by a zero byte, and has none
  pub name_whole : (at : ℕ) → has_end t at ≡ true
      → (get_or t (name_end t at) 0 ≡ 0) × ((i : ℕ) → i < length (name_at t at) → get_or (name_at t at) i 0 ≡ 0 → ⊥)
  name_whole at e = (end_zero at e, name_nonzero at)

-- a name that is s has the bytes of s
pub name_is_apart : (t s : List ℕ) (at i : ℕ) → i < length s → (get_or t (at + i) 0 ≡ get_or s i 0 → ⊥) → same (name_at t at) s ≡ false
name_is_apart t s at i h ne =
    same_ne _ _
    (λ e.
    let k : i < length (name_at t at) = rw e h in
    ne (sym (name_byte t at i k) ∙ ap (λ (l : List ℕ). get_or l i 0) e))

-- the turns of a loop that compares the name at j, byte by byte, with a string from i on
module _ (t s : List ℕ) (j i : ℕ) where
  pub name_is_next : j < length t → (get_or t j 0 ≡ 0 → ⊥) → i < length s → get_or t j 0 ≡ get_or s i 0
      → same (name_at t j) (drop i s) ≡ same (name_at t (j + 1)) (drop (i + 1) s)
  unfolding same
  name_is_next h z k e = rw (name_cons t j h z, drop_next s i 0 k, eq-eqb _ _ e)

  pub name_is_not : j < length t → (get_or t j 0 ≡ 0 → ⊥) → i < length s → (get_or t j 0 ≡ get_or s i 0 → ⊥)
      → same (name_at t j) (drop i s) ≡ false
  unfolding same
  name_is_not h z k d = rw (name_cons t j h z, drop_next s i 0 k, ne_eqb _ _ d)

  -- the name ends first
  pub name_is_short : get_or t j 0 ≡ 0 → i < length s → same (name_at t j) (drop i s) ≡ false
  unfolding same
  name_is_short z k = rw (name_nil t j z, drop_next s i 0 k)

  -- the string ends first, or both end
  pub name_is_end : length s ≤ i → same (name_at t j) (drop i s) ≡ eqb (get_or t j 0) 0
  unfolding same
  name_is_end k = by-test (eqb (get_or t j 0) 0)
      (λ e. rw (e, drop_of_length-le s k, name_nil t j (eqb-true _ _ e)))
      (λ e. by-lt j (length t)
      (λ h. rw (e, drop_of_length-le s k, name_cons t j h (eqb-false _ _ e)))
      (λ h. both (eq-eqb _ _ (get_or-eq_default t 0 h)) e))

-- ---- a table appended to another

module _ (t u : List ℕ) where
  zero_front : (i : ℕ) → i < length t → zero_at (t ++ u) i ≡ zero_at t i
  unfolding zero_at
  zero_front i h = rw (get_or-append t u 0 i h)

  zero_behind : (i : ℕ) → zero_at (t ++ u) (length t + i) ≡ zero_at u i
  unfolding zero_at
  zero_behind i = rw (get_or-append-add t u i 0)

  -- a name that has its end in the first table keeps it
  pub end_append : (at : ℕ) → has_end t at ≡ true → name_end (t ++ u) at ≡ name_end t at
  unfolding has_end name_end
  end_append at e =
      let f : first (zero_at (t ++ u)) at (length t) ≡ first (zero_at t) at (length t) = first_ext _ _ at (length t) (λ j l h. zero_front j h) in
      let h : first (zero_at t) at (length t) < length t = ltb-true _ _ e in
      rw length-append (first_more (zero_at (t ++ u)) at (length t) (length t + length u) (omega arith) (omega arith) ∙ f)

  pub has_end_append : (at : ℕ) → has_end t at ≡ true → has_end (t ++ u) at ≡ true
  has_end_append at e = lt_has_end (t ++ u) at (rw (end_append at e, length-append) (omega (arith, has_end_lt t at e)))

  pub name_append : (at : ℕ) → has_end t at ≡ true → name_at (t ++ u) at ≡ name_at t at
  unfolding name_at
  name_append at e =
      let h : name_end t at < length t = has_end_lt t at e in
      let l : at ≤ name_end t at = end_low t at in
      let k : name_end t at - at ≤ length (drop at t) = rw length-drop (omega arith) in
      rw (end_append at e, drop-append-le at t u (omega arith)) (take-append-le (name_end t at - at) (drop at t) u k)

  -- a name of the second table stands behind the first
  pub end_behind_lem : (at : ℕ) → name_end (t ++ u) (length t + at) ≡ length t + name_end u at
  unfolding name_end
  end_behind_lem at = rw length-append
      (first_shift (zero_at (t ++ u)) (length t) at (length u) ∙ ap (λ k. length t + k) (first_ext _ _ at (length u) (λ j l h. zero_behind j)))

  pub has_end_behind : (at : ℕ) → has_end (t ++ u) (length t + at) ≡ has_end u at
  unfolding has_end
  has_end_behind at = rw (end_behind_lem at, length-append) (by-lt (name_end u at) (length u)
      (λ h. lt-ltb (length t + name_end u at) (length t + length u) (omega arith) ∙ sym (lt-ltb _ _ h))
      (λ h. le-ltb (length t + name_end u at) (length t + length u) (omega arith) ∙ sym (le-ltb _ _ h)))

  pub name_behind : (at : ℕ) → name_at (t ++ u) (length t + at) ≡ name_at u at
  unfolding name_at
  name_behind at =
      let k : length t + name_end u at - (length t + at) ≡ name_end u at - at = omega arith in
      rw (end_behind_lem at, k, drop-append-add t u at)

-- a string with no zero byte, written with one behind it, is read back
module _ (s r : List ℕ) (full : (i : ℕ) → i < length s → get_or s i 0 ≡ 0 → ⊥) where
  pub end_written : name_end (s ++ (0 ∷ r)) 0 ≡ length s
  unfolding name_end
  end_written =
      let l : List ℕ = s ++ (0 ∷ r) in
      let h : length s < length l = rw length-append (omega arith) in
      first_unique (zero_at l) 0 (length l) _ _ (first_is (zero_at l) 0 (length l) (omega arith))
      (record {
        low = omega arith;
        high = omega arith;
        below = λ j a b. zero_front s (0 ∷ r) j b ∙ zero_false s j (full j b);
        here = λ a. zero_true l (length s) (get_or-append_seam s 0 r 0);
      })

  pub has_end_written : has_end (s ++ (0 ∷ r)) 0 ≡ true
  has_end_written = lt_has_end (s ++ (0 ∷ r)) 0 (rw (end_written, length-append) (omega arith))

  pub name_written_lem : name_at (s ++ (0 ∷ r)) 0 ≡ s
  unfolding name_at
  name_written_lem = rw (end_written, sub-zero, take-append_seam)

-- ---- bytes over 127

module _ (s : List ℕ) where
  pub ascii_true : ascii s ≡ true → (i : ℕ) → i < length s → get_or s i 0 ≤ 127
  unfolding ascii over_at
  ascii_true t i h = ltb-false _ _ (none_first (over_at s) 0 (length s) i (eqb-true _ _ t) (omega arith) h)

  -- a loop that looks for a byte over 127 has seen none, or meets one
  pub ascii_all : ((i : ℕ) → i < length s → get_or s i 0 ≤ 127) → ascii s ≡ true
  unfolding ascii over_at
  ascii_all all = eq-eqb _ _ (first_none (over_at s) 0 (length s) (omega arith) (λ j l h. le-ltb _ _ (all j h)))

  pub ascii_over : (i : ℕ) → i < length s → 127 < get_or s i 0 → ascii s ≡ false
  ascii_over i h o = by-test (ascii s) (λ t. absurd (omega (arith, ascii_true t i h))) (λ f. f)
