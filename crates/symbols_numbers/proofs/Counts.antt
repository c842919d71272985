-- A position that holds its name is counted in its own group alone, so one entry of an array of counts changes with it; no group order is longer than the positions.
-- Assumes nothing.
use Prim.Native.Nat.{ℕ, zero, suc, ◌+◌, ◌≤◌, ◌<◌}
use mathlib.Core.Path.{◌≡◌, refl, sym, ap, ◌∙◌}
use mathlib.Core.Bool.{Bool, true, false, cond, ◌&&◌}
use mathlib.Core.Logic.{◌≢◌}
use mathlib.Core.List.{List, [], ◌∷◌}
use native.Mathlib.Nat.{add-zero, zero-add}
use native.Mathlib.Numerals.{add-one}
use native.Mathlib.Omega.{arith}
use lib.ListN.{length, get_or, set, replicate, length-set, get_or-replicate}
use lib.Seq.{get_or-set_same, get_or-set_other, ext_get_or}
use lib.Dec.{ltb, eqb}
use borrow.Author.Tests.{eq-eqb, ne_eqb, eqb-true, eqb-false, lt-ltb, le-ltb}
use Rattle.base_lists.specs.Ranges.{count, gather, select}
use Rattle.base_lists.proofs.Ranges.{by-test, by-lt, count_zero, count_next, count_none, count_le, count_mono, select_all_length, select_all_at}
use Rattle.base_groups.specs.Groups.{in_group, grouped, grouped_place}
use Rattle.base_groups.proofs.Groups.{grouped_zero, grouped_long, place_lt}
use Rattle.symbols_merge.specs.Merged.{RESULT_GROUPS}
use Rattle.symbols_rows.specs.Rows.{result_group_in}
use Rattle.symbols_numbers.specs.Numbers.{holds_in, count_behind, order_in, group_count, group_counts, group_starts}

-- ---- over any order

module _ (keep : ℕ → Bool) (group : ℕ → ℕ) (n : ℕ) where
  abbrev In : ℕ → ℕ → Bool
  In = in_group keep group n

  own_one : (i : ℕ) → In (group i) i ≡ keep i
  unfolding in_group
  own_one i = rw (eq-eqb (group i) (group i) refl) (by-test (keep i) (λ t. rw t) (λ f. rw f))

  other_none : (g i : ℕ) → g ≢ group i → In g i ≡ false
  unfolding in_group
  other_none g i d = rw (ne_eqb (group i) g (λ e. d (sym e))) (by-test (keep i) (λ t. rw t) (λ f. rw f))

  pub own_next : (i : ℕ) → count (In (group i)) (i + 1) ≡ count (In (group i)) i + cond (keep i) 1 0
  own_next i = count_next (In (group i)) i ∙ rw (own_one i)

  pub other_next : (g i : ℕ) → g ≢ group i → count (In g) (i + 1) ≡ count (In g) i
  other_next g i d = count_next (In g) i ∙ rw (other_none g i d) (add-zero _)

  -- the indices of the groups below k are at most all
  abbrev below : ℕ → ℕ → Bool
  below k i = keep i && ltb (group i) k

  one_more : (k i : ℕ) → cond (below (k + 1) i) 1 0 ≡ cond (below k i) 1 0 + cond (In k i) 1 0
  unfolding in_group
  one_more k i = by-test (keep i)
      (λ t. by-lt (group i) k
      (λ l.
      let d : group i ≢ k = omega arith in
      rw (t, lt-ltb (group i) (k + 1) (omega arith), lt-ltb (group i) k l, ne_eqb (group i) k d))
      (λ l. by-test (eqb (group i) k)
      (λ e. let q : group i ≡ k = eqb-true (group i) k e in rw (t, lt-ltb (group i) (k + 1) (omega arith), le-ltb (group i) k l, e))
      (λ e.
      let q : group i ≢ k = eqb-false (group i) k e in
      rw (t, le-ltb (group i) (k + 1) (omega arith), le-ltb (group i) k l, e))))
      (λ f. rw f)

  more : (k i : ℕ) → count (below (k + 1)) i ≡ count (below k) i + count (In k) i
  more k zero = rw (count_zero (below (k + 1)), count_zero (below k), count_zero (In k))
  more k (suc i) = rw (← add-one i, count_next (below (k + 1)) i, count_next (below k) i, count_next (In k) i, more k i, one_more k i) (omega arith)

  none_below : (i : ℕ) → below 0 i ≡ false
  none_below i = rw (le-ltb (group i) 0 (omega arith)) (by-test (keep i) (λ t. rw t) (λ f. rw f))

  all_below : (k : ℕ) → length (grouped keep group n k) ≡ count (below k) n
  all_below zero = ap length (grouped_zero keep group n) ∙ sym (count_none (below 0) n (λ i h. none_below i))
  all_below (suc k) = rw (← add-one k, grouped_long keep group n k, all_below k) (sym (more k n))

  pub grouped_few : (k : ℕ) → length (grouped keep group n k) ≤ n
  grouped_few k = rw (all_below k) (count_le (below k) n)

-- ---- an array of counts, by group, behind the first p positions

module _ (T L H : List ℕ) (m : ℕ) where
  pub record Counting (base : ℕ → ℕ) (k p : ℕ) (a : List ℕ) : Type 0 where
    pub few : p ≤ m
    pub long : length a ≡ k
    pub at : (g : ℕ) → g < k → get_or a g 0 ≡ base g + group_count T L H m p g

  count_none_yet : (g : ℕ) → group_count T L H m 0 g ≡ 0
  unfolding group_count
  count_none_yet g = count_zero _

  count_own : (p : ℕ) → group_count T L H m (p + 1) (result_group_in T L p) ≡ count_behind H p (group_count T L H m p (result_group_in T L p))
  unfolding group_count
  count_own p = own_next (holds_in H) (result_group_in T L) m p

  count_other : (p g : ℕ) → g ≢ result_group_in T L p → group_count T L H m (p + 1) g ≡ group_count T L H m p g
  unfolding group_count
  count_other p g d = other_next (holds_in H) (result_group_in T L) m g p d

  pub count_small : (p g : ℕ) → group_count T L H m p g ≤ p
  unfolding group_count
  count_small p g = count_le _ p

  module _ (base : ℕ → ℕ) (k p : ℕ) (a : List ℕ) (w : Counting base k p a) (c : ℕ) (e : c ≡ result_group_in T L p) (l : c < k) where
    own_at : get_or a c 0 ≡ base c + group_count T L H m p (result_group_in T L p)
    own_at = w.at c l ∙ ap (λ (g : ℕ). base c + group_count T L H m p g) e

    moved : (x : ℕ) → x ≡ count_behind H p (get_or a c 0) → (g : ℕ) → g < k → get_or (set a c x) g 0 ≡ base g + group_count T L H m (p + 1) g
    moved x is g h = by-test (eqb g c)
        (λ t.
        let q : g ≡ c = eqb-true g c t in
        let u : c < length a = omega (arith, w.long) in
        let v : x ≡ base c + group_count T L H m (p + 1) c = rw (e, count_own p) (omega (arith, rw e at (is ∙ ap (count_behind H p) own_at))) in
        rw q (get_or-set_same a c x 0 u ∙ v))
        (λ f.
        let q = eqb-false g c f in
        get_or-set_other a c g x 0 q ∙ w.at g h ∙ ap (λ (y : ℕ). base g + y) (sym (count_other p g (λ y. q (y ∙ sym e)))))

    pub counting_next : (x : ℕ) → x ≡ count_behind H p (get_or a c 0) → p < m → Counting base k (p + 1) (set a c x)
    counting_next x is h = record { few = omega arith; long = length-set a c x ∙ w.long; at = moved x is }

  -- ---- the counts

  pub counts_none : Counting (λ g. 0) RESULT_GROUPS 0 (replicate RESULT_GROUPS 0)
  counts_none = record { few = omega arith; long = refl; at = λ g h. get_or-replicate RESULT_GROUPS g 0 0 h ∙ rw (count_none_yet g) }

  pub counts_end : (p : ℕ) (a : List ℕ) → Counting (λ g. 0) RESULT_GROUPS p a → m ≤ p → a ≡ group_counts T L H m
  unfolding group_counts
  counts_end p a w h =
      let u = w.few in
      let e : p ≡ m = omega arith in
      ext_get_or 0 a _ (w.long ∙ sym (select_all_length (group_count T L H m m) RESULT_GROUPS)) (λ g l.
      let k : g < RESULT_GROUPS = omega (arith, w.long) in
      w.at g k ∙ zero-add _ ∙ ap (λ (y : ℕ). group_count T L H m y g) e ∙ sym (select_all_at (group_count T L H m m) g RESULT_GROUPS 0 k))

  pub counts_small : (p : ℕ) (a : List ℕ) → Counting (λ g. 0) RESULT_GROUPS p a → (g : ℕ) → g < RESULT_GROUPS → get_or a g 0 ≤ m
  counts_small p a w g h = rw (w.at g h) (omega (arith, w.few, count_small p g))

  pub record CountAt (a : List ℕ) (g : ℕ) : Type 0 where
    pub long : length a ≡ RESULT_GROUPS
    pub is : get_or a g 0 ≡ group_count T L H m m g
    pub few : get_or a g 0 ≤ m

  pub counts_at : (a : List ℕ) (g : ℕ) → a ≡ group_counts T L H m → g < RESULT_GROUPS → CountAt a g
  unfolding group_counts
  counts_at a g e h =
      let q : get_or a g 0 ≡ group_count T L H m m g = rw e (select_all_at (group_count T L H m m) g RESULT_GROUPS 0 h) in
      record { long = rw e (select_all_length (group_count T L H m m) RESULT_GROUPS); is = q; few = rw q (count_small m g) }

  -- ---- the starts: each is the one before it and the count of its group

  start_zero : length (order_in T L H m 0) ≡ 0
  unfolding order_in
  start_zero = ap length (grouped_zero (holds_in H) (result_group_in T L) m)

  start_next : (k : ℕ) → length (order_in T L H m (k + 1)) ≡ length (order_in T L H m k) + group_count T L H m m k
  unfolding order_in group_count
  start_next k = grouped_long (holds_in H) (result_group_in T L) m k

  pub starts_are : (a b c d : ℕ) → a ≡ group_count T L H m m 0 → b ≡ a + group_count T L H m m 1 → c ≡ b + group_count T L H m m 2 → d ≡ c + group_count T L H m m 3
      → (0 ∷ a ∷ b ∷ c ∷ d ∷ []) ≡ group_starts T L H m
  unfolding group_starts select gather
  starts_are a b c d ea eb ec ed =
      let e0 = start_zero in
      let e1 : length (order_in T L H m 1) ≡ a = omega (arith, start_next 0, e0, ea) in
      let e2 : length (order_in T L H m 2) ≡ b = omega (arith, start_next 1, e1, eb) in
      let e3 : length (order_in T L H m 3) ≡ c = omega (arith, start_next 2, e2, ec) in
      let e4 : length (order_in T L H m 4) ≡ d = omega (arith, start_next 3, e3, ed) in
      rw (e0, e1, e2, e3, e4)

  -- ---- the next places

  pub start_few : (k : ℕ) → length (order_in T L H m k) ≤ m
  unfolding order_in
  start_few k = grouped_few (holds_in H) (result_group_in T L) m k

  -- where the next of each group goes, behind the first p positions
  abbrev pub Nexts : ℕ → List ℕ → Type 0
  Nexts p a = Counting (λ g. length (order_in T L H m g)) (RESULT_GROUPS + 1) p a

  pub next_none : (a : List ℕ) → a ≡ group_starts T L H m → Nexts 0 a
  unfolding group_starts
  next_none a e = record {
    few = omega arith;
    long = rw e (select_all_length (λ k. length (order_in T L H m k)) (RESULT_GROUPS + 1));
    at = λ g h. rw (e, count_none_yet g) (select_all_at (λ k. length (order_in T L H m k)) g (RESULT_GROUPS + 1) 0 h ∙ sym (add-zero _));
  }

  -- what a group has behind p positions is at most what it has in all
  next_few : (p g : ℕ) → p ≤ m → length (order_in T L H m g) + group_count T L H m p g ≤ m
  unfolding group_count
  next_few p g h = omega (arith, start_few (g + 1), start_next g, count_mono (in_group (holds_in H) (result_group_in T L) m g) p m h)

  -- the next of p's group goes to p's place
  pub record NextAt (p x : ℕ) : Type 0 where
    pub small : x ≤ m
    pub is : x ≡ grouped_place (holds_in H) (result_group_in T L) m p
    pub low : p < m → holds_in H p ≡ true → x < m

  module _ (p : ℕ) (a : List ℕ) (w : Nexts p a) (c : ℕ) (e : c ≡ result_group_in T L p) (l : c < RESULT_GROUPS) where
    pub next_moved : (x : ℕ) → x ≡ count_behind H p (get_or a c 0) → p < m → Nexts (p + 1) (set a c x)
    next_moved x is h = counting_next (λ g. length (order_in T L H m g)) (RESULT_GROUPS + 1) p a w c e (omega arith) x is h

    next_small : get_or a c 0 ≤ m
    next_small = rw (w.at c (omega arith)) (next_few p c w.few)

    next_is : get_or a c 0 ≡ grouped_place (holds_in H) (result_group_in T L) m p
    unfolding grouped_place order_in group_count
    next_is = w.at c (omega arith) ∙ rw e

    next_lt : p < m → holds_in H p ≡ true → get_or a c 0 < m
    unfolding order_in
    next_lt h t =
        rw next_is (omega (arith, start_few RESULT_GROUPS, place_lt (holds_in H) (result_group_in T L) m RESULT_GROUPS p h t (rw (← e) l)))

    pub next_at : NextAt p (get_or a c 0)
    next_at = record { small = next_small; is = next_is; low = next_lt }
