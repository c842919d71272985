-- How often a list has a reference: in an append the sum; in what is gathered, as often as the one part that may have it; in a row of a table's entries once where the entry is
-- selected. Assumes nothing.
use Prim.Native.Nat.{ℕ, zero, suc, ◌+◌, ◌<◌}
use mathlib.Core.Path.{◌≡◌, refl, sym, ap, ◌∙◌}
use mathlib.Core.Logic.{◌≢◌}
use mathlib.Core.Bool.{Bool, true, cond, ◌&&◌}
use mathlib.Core.List.{List, [], ◌∷◌, ◌++◌}
use native.Mathlib.Omega.{arith}
use lib.ListN.{length}
use lib.Dec.{eqb}
use borrow.Author.Tests.{eqb-true, eq-eqb}
use Rattle.base_lists.specs.Ranges.{count, gather, select}
use Rattle.base_lists.proofs.Ranges.{by-test, by_last, and_parts}
use Rattle.demand_clauses.specs.Reading.{Reference, same_reference, reference_at, times_in}

-- the first index apart
count_front : (p : ℕ → Bool) (n : ℕ) → count p (suc n) ≡ cond (p 0) 1 0 + count (λ j. p (suc j)) n
unfolding count
count_front p zero = by-test (p 0) (λ t. rw t) (λ f. rw f)
count_front p (suc n) = by-test (p (suc n))
    (λ t. let e = count_front p n in rw t (omega (arith, e)))
    (λ f. let e = count_front p n in rw f (omega (arith, e)))

-- ---- equal references

same_parts : (a b : Reference) → same_reference a b ≡ true → (a.object ≡ b.object) × (a.table ≡ b.table) × (a.entry ≡ b.entry)
unfolding same_reference
same_parts a b e =
    let p = and_parts (eqb a.object b.object) (eqb a.table b.table && eqb a.entry b.entry) e in
    let q = and_parts (eqb a.table b.table) (eqb a.entry b.entry) p.1 in
    (eqb-true a.object b.object p.0, eqb-true a.table b.table q.0, eqb-true a.entry b.entry q.1)

parts_same : (a b : Reference) → a.object ≡ b.object → a.table ≡ b.table → a.entry ≡ b.entry → same_reference a b ≡ true
unfolding same_reference
parts_same a b e f g = rw (eq-eqb a.object b.object e, eq-eqb a.table b.table f, eq-eqb a.entry b.entry g)

module _ (r : Reference) where
  -- in no reference, in one more, in two lists
  pub times_none : times_in [] r ≡ 0
  unfolding times_in count
  times_none = refl

  times_more : (x : Reference) (l : List Reference) → times_in (x ∷ l) r ≡ cond (same_reference r x) 1 0 + times_in l r
  unfolding times_in reference_at
  times_more x l = count_front (λ j. same_reference r (reference_at (x ∷ l) j)) (length l)

  pub times_append : (l m : List Reference) → times_in (l ++ m) r ≡ times_in l r + times_in m r
  times_append [] m = omega (arith, times_none)
  times_append (x ∷ l) m = omega (arith, times_more x (l ++ m), times_more x l, times_append l m)

  -- ---- parts

  module _ (p : ℕ → Bool) (f : ℕ → List Reference) where
    -- no part has it
    pub times_nowhere : (n : ℕ) → ((i : ℕ) → i < n → p i ≡ true → times_in (f i) r ≡ 0) → times_in (gather p f n) r ≡ 0
    unfolding gather
    times_nowhere zero none = times_none
    times_nowhere (suc n) none =
        let before : times_in (gather p f n) r ≡ 0 = times_nowhere n (λ i h. none i (omega arith)) in
        by-test (p n)
        (λ t. rw t (omega (arith, times_append (gather p f n) (f n), before, none n (omega arith) t)))
        (λ e. rw e before)

    -- no part but one has it
    pub times_only : (n i : ℕ) → i < n → p i ≡ true → ((j : ℕ) → j < n → p j ≡ true → j ≢ i → times_in (f j) r ≡ 0) → times_in (gather p f n) r ≡ times_in (f i) r
    unfolding gather
    times_only zero i h t none = absurd (omega (arith, h))
    times_only (suc n) i h t none = by_last i n h
        (λ l.
        let before : times_in (gather p f n) r ≡ times_in (f i) r = times_only n i l t (λ j g. none j (omega arith)) in
        by-test (p n)
        (λ y. rw y (omega (arith, times_append (gather p f n) (f n), before, none n (omega arith) y (omega arith))))
        (λ e. rw e before))
        (λ q.
        let before : times_in (gather p f n) r ≡ 0 = times_nowhere n (λ j g y. none j (omega arith) y (omega arith)) in
        let y : p n ≡ true = rw (← q) t in
        rw (y, q) (omega (arith, times_append (gather p f n) (f n), before)))

  -- ---- the entries of table t of an object that are selected

  module _ (object t : ℕ) (p : ℕ → Bool) (n : ℕ) where
    abbrev row : List Reference
    row = select p (λ k. record { object = object; table = t; entry = k }) n

    -- another reference
    one_not : (k : ℕ) → (r.object ≡ object → r.table ≡ t → r.entry ≡ k → ⊥) → times_in (record { object = object; table = t; entry = k } ∷ []) r ≡ 0
    one_not k d =
        let x : Reference = record { object = object; table = t; entry = k } in
        by-test (same_reference r x)
        (λ y. let q = same_parts r x y in absurd (d q.0 q.1 q.2))
        (λ f. times_more x [] ∙ rw (f, times_none))

    -- the row has it once where it is one of them, and else not
    pub row_without : (r.object ≡ object → r.table ≡ t → r.entry < n → p r.entry ≡ true → ⊥) → times_in row r ≡ 0
    unfolding select
    row_without d =
        times_nowhere p (λ k. record { object = object; table = t; entry = k } ∷ []) n
        (λ k h y. one_not k (λ a b c. d a b (omega (arith, h, c)) (ap p c ∙ y)))

    pub row_once : r.object ≡ object → r.table ≡ t → r.entry < n → p r.entry ≡ true → times_in row r ≡ 1
    unfolding select
    row_once a b h y =
        let x : Reference = record { object = object; table = t; entry = r.entry } in
        times_only p (λ k. record { object = object; table = t; entry = k } ∷ []) n r.entry h y
        (λ k l z d. one_not k (λ c e g. d (sym g)))
        ∙ times_more x []
        ∙ rw (parts_same r x a b refl, times_none)
