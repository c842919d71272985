-- Laws of a stable order by groups: what is kept stands there once, at its place, and the groups follow one another. Assumes nothing.
use Prim.Native.Nat.{ℕ, zero, suc, ◌+◌, ◌-◌, ◌≤◌, ◌<◌}
use mathlib.Core.Path.{◌≡◌, refl, sym, ap, ◌∙◌}
use mathlib.Core.Bool.{Bool, true, false, ◌&&◌}
use mathlib.Core.List.{List, [], ◌++◌}
use native.Mathlib.Numerals.{add-one}
use native.Mathlib.Omega.{arith}
use lib.ListN.{length, get_or, length-append, get_or-append}
use lib.Seq.{get_or-append-add}
use lib.Dec.{eqb}
use borrow.Author.Tests.{eqb-true, eq-eqb}
use Rattle.base_lists.specs.Ranges.{count, gather, select}
use Rattle.base_lists.proofs.Ranges.{by-test, by-lt, and_parts, and_true, gather_yes, gather_split, gather_append, gather_same, select_same, select_length, select_at, count_lt, count_hit, count_same}
use Rattle.base_groups.specs.Groups.{in_group, of_group, grouped, grouped_place}

module _ (keep : ℕ → Bool) (group : ℕ → ℕ) (n : ℕ) where
  abbrev In : ℕ → ℕ → Bool
  In = in_group keep group n

  abbrev All : ℕ → List ℕ
  All = grouped keep group n

  abbrev Of : ℕ → List ℕ
  Of = of_group keep group n

  abbrev place : ℕ → ℕ
  place = grouped_place keep group n

  -- ---- members

  pub in_own : (i : ℕ) → keep i ≡ true → In (group i) i ≡ true
  unfolding in_group
  in_own i k = and_true _ _ k (eq-eqb (group i) (group i) refl)

  pub in_kept : (g i : ℕ) → In g i ≡ true → (keep i ≡ true) × (group i ≡ g)
  unfolding in_group
  in_kept g i h =
      let r = and_parts (keep i) (eqb (group i) g) h in
      (r.0, eqb-true (group i) g r.1)

  of_length : (g : ℕ) → length (Of g) ≡ count (In g) n
  unfolding of_group
  of_length g = select_length (In g) (λ i. i) n

  of_at : (g i : ℕ) → i < n → In g i ≡ true → get_or (Of g) (count (In g) i) 0 ≡ i
  unfolding of_group
  of_at g i h m = select_at (In g) (λ i. i) i n 0 h m

  -- ---- groups follow one another

  pub grouped_zero : All 0 ≡ []
  unfolding grouped gather
  grouped_zero = refl

  grouped_next : (k : ℕ) → All (k + 1) ≡ All k ++ Of k
  unfolding grouped
  grouped_next k = gather_yes (λ g. true) Of k refl

  pub grouped_long : (k : ℕ) → length (All (k + 1)) ≡ length (All k) + count (In k) n
  grouped_long k = rw (grouped_next k, length-append, of_length k)

  pub grouped_mono : (g k : ℕ) → g ≤ k → length (All g) ≤ length (All k)
  unfolding grouped
  grouped_mono g k h =
      let e : g + (k - g) ≡ k = omega arith in
      let r : All (g + (k - g)) ≡ All g ++ gather (λ j. true) (λ j. Of (g + j)) (k - g) = gather_append (λ g. true) Of g (k - g) in
      rw (← e, r, length-append) (omega arith)

  -- ---- the place of an index

  pub place_low : (i : ℕ) → length (All (group i)) ≤ place i
  unfolding grouped_place
  place_low i = omega arith

  pub place_high : (i : ℕ) → i < n → keep i ≡ true → place i < length (All (group i + 1))
  unfolding grouped_place
  place_high i h k = rw (grouped_long (group i)) (omega (arith, count_lt (In (group i)) i n h (in_own i k)))

  pub place_lt : (k i : ℕ) → i < n → keep i ≡ true → group i < k → place i < length (All k)
  place_lt k i h e g = omega (arith, place_high i h e, grouped_mono (group i + 1) k (omega arith))

  pub grouped_at : (k i : ℕ) → i < n → keep i ≡ true → group i < k → get_or (All k) (place i) 0 ≡ i
  unfolding grouped grouped_place
  grouped_at k i h e g =
      let m : In (group i) i ≡ true = in_own i e in
      let r : (r : List ℕ) × (All k ≡ All (group i) ++ (Of (group i) ++ r)) = gather_split (λ g. true) Of (group i) k g refl in
      let c : count (In (group i)) i < length (Of (group i)) = rw (of_length (group i)) (count_lt (In (group i)) i n h m) in
      rw r.1 (get_or-append-add (All (group i)) (Of (group i) ++ r.0) _ 0 ∙ (get_or-append (Of (group i)) r.0 0 _ c ∙ of_at (group i) i h m))

  -- ---- the index at a place

  -- among the groups below k, place j is that of `index`
  pub record Stands (k j : ℕ) : Type 0 where
    pub index : ℕ
    pub small : index < n
    pub kept : keep index ≡ true
    pub low : group index < k
    pub there : place index ≡ j
    pub is : get_or (All k) j 0 ≡ index

  stands_by : (k j i : ℕ) → i < n → keep i ≡ true → group i < k → place i ≡ j → Stands k j
  stands_by k j i h e g p = record { index = i; small = h; kept = e; low = g; there = p; is = rw (← p) (grouped_at k i h e g) }

  stands_more : (k j : ℕ) → Stands k j → Stands (suc k) j
  stands_more k j r = stands_by (suc k) j r.index r.small r.kept (omega (arith, r.low)) r.there

  stands_last : (k j i : ℕ) → length (All k) ≤ j → i < n → In k i ≡ true → count (In k) i ≡ j - length (All k) → Stands (suc k) j
  unfolding grouped_place
  stands_last k j i l h m c =
      let r = in_kept k i m in
      let e : group i ≡ k = r.1 in
      stands_by (suc k) j i h r.0 (omega arith) (rw e (omega arith))

  pub stands_at : (k j : ℕ) → j < length (All k) → Stands k j
  stands_at zero j h = absurd (omega (arith, ap length grouped_zero))
  stands_at (suc k) j h =
      let l : j < length (All k) + count (In k) n = rw (← grouped_long k, add-one k) h in
      by-lt j (length (All k))
      (λ u. stands_more k j (stands_at k j u))
      (λ u.
      let r = count_hit (In k) n (j - length (All k)) (omega arith) in
      stands_last k j r.0 u r.1 r.2 r.3)

  -- the places of the groups below g, and they alone, are below their length
  pub group_below : (k j g : ℕ) (r : Stands k j) → j < length (All g) → group r.index < g
  group_below k j g r h = by-lt (group r.index) g
      (λ l. l)
      (λ l. absurd (omega (arith, grouped_mono g (group r.index) l, place_low r.index, r.there)))

  pub group_above : (k j g : ℕ) (r : Stands k j) → length (All g) ≤ j → g ≤ group r.index
  group_above k j g r h = by-lt (group r.index) g
      (λ l. absurd (omega (arith, grouped_mono (group r.index + 1) g (omega arith), place_high r.index r.small r.kept, r.there)))
      (λ l. l)

  -- two indices have two places
  pub place_once : (i j : ℕ) → i < n → j < n → keep i ≡ true → keep j ≡ true → place i ≡ place j → i ≡ j
  place_once i j h l a b e =
      let k = group i + group j + 1 in
      sym (grouped_at k i h a (omega arith)) ∙ (ap (λ (x : ℕ). get_or (All k) x 0) e ∙ grouped_at k j l b (omega arith))

-- an order is decided by what is kept below n, and by the groups of that
module _ (keep keep' : ℕ → Bool) (group group' : ℕ → ℕ) (n : ℕ) (kept : (i : ℕ) → i < n → keep i ≡ keep' i) (same : (i : ℕ) → i < n → keep i ≡ true → group i ≡ group' i) where
  in_same : (g i : ℕ) → i < n → in_group keep group n g i ≡ in_group keep' group' n g i
  unfolding in_group
  in_same g i h = by-test (keep i)
      (λ t. rw (← kept i h, t, same i h t))
      (λ f. rw (← kept i h, f))

  pub grouped_same : (k : ℕ) → grouped keep group n k ≡ grouped keep' group' n k
  unfolding grouped of_group
  grouped_same k = gather_same (λ g. true) (λ g. true) _ _ k (λ g h. refl) (λ g h t. select_same _ _ (λ i. i) (λ i. i) n (λ i l. in_same g i l) (λ i l t. refl))

  -- and so is the place of one that is kept
  pub place_same : (i : ℕ) → i < n → keep i ≡ true → grouped_place keep group n i ≡ grouped_place keep' group' n i
  unfolding grouped_place
  place_same i h t =
      rw (same i h t, grouped_same (group' i), count_same (in_group keep group n (group' i)) (in_group keep' group' n (group' i)) i (λ j l. in_same (group' i) j (omega arith)))
