-- What the tables tell is the merge of symbols: position by position the list, the holders and the groups are those of the candidates, and so are the order and the
-- numbers made of them. Assumes that rows, list and holders are in hand.
use Rattle.std.specs.Prelude.{None, Some, Option}
use Prim.Native.Nat.{ℕ, ◌+◌, ◌-◌, ◌*◌, ◌≤◌, ◌<◌}
use mathlib.Core.Path.{◌≡◌, refl, sym, ap, ◌∙◌}
use mathlib.Core.Bool.{Bool, true, false, cond, ◌&&◌}
use mathlib.Core.List.{List}
use native.Mathlib.Omega.{arith}
use lib.ListN.{length, get_or}
use lib.Dec.{ltb, eqb}
use borrow.Author.Tests.{eqb-true, lt-ltb, le-ltb, ltb-true}
use Rattle.base_lists.proofs.Ranges.{by-test, both, and_parts, by-lt, select_all_at}
use Rattle.base_groups.specs.Groups.{grouped, grouped_place}
use Rattle.base_groups.specs.Holders.{is_holder}
use Rattle.base_groups.proofs.Groups.{stands_at, grouped_same, place_same}
use Rattle.base_groups.proofs.Holders.{holder_le, holder_holds}
use Rattle.base_packed.specs.declared.MergedSymbol.{MergedSymbol}
use Rattle.symbols_merge.specs.Candidates.{Candidates, is_local}
use Rattle.symbols_merge.specs.Listed.{list_group, listed, position, listed_at, is_alike, holder_of}
use Rattle.symbols_merge.specs.Merged.{RESULT_GROUPS, LOCAL_GROUPS, result_group, is_merged, group_at_position, merged, merged_count, local_count, merged_at, number_of}
use Rattle.symbols_merge.proofs.Names.{alike_parts}
use Rattle.symbols_merge.proofs.Merged.{Taken, position_lt, listed_position, number_in}
use Rattle.symbols_merge.proofs.Agree.{Agree, merged_agree, count_agree, locals_agree, number_agree}
use Rattle.symbols_rows.specs.Rows.{id_taken, id_binding, candidates_in, RowsOf, half_in, halves_in, ListOf, HoldersOf, result_group_in}
use Rattle.symbols_rows.proofs.Tables.{list_long, list_at, list_taken, holder_in, holders_of}
use Rattle.base_packed.specs.declared.MergedSymbol.{MergedSymbol}
use Rattle.symbols_numbers.specs.Numbers.{holds_in, Tables, HoldersFirst, IdRoom, order_in, group_starts, number_at, number_by, IdsNumbered, new_in}
use Rattle.symbols_numbers.specs.Result.{StartsOf, OrderOf, NumbersOf, new_of}
use Rattle.symbols_numbers.proofs.Leaves.{holds_self, symbol_none, symbol_some, new_in_lem, new_past}
use Rattle.symbols_numbers.proofs.Counts.{grouped_few}
use Rattle.symbols_numbers.proofs.Numbers.{by_position, by_none}

-- ---- over any candidates

module _ (s : Candidates) where
  pub listed_few : length (listed s) ≤ s.many
  unfolding listed
  listed_few = grouped_few s.taken (list_group s) s.many 2

  pub merged_few : merged_count s ≤ length (listed s) + 1
  unfolding merged_count merged
  merged_few = omega (arith, grouped_few (is_merged s) (group_at_position s) (length (listed s)) RESULT_GROUPS)

  pub number_few : (i : ℕ) → Taken s i → number_of s i ≤ s.many
  number_few i t = omega (arith, (number_in s i t).1, merged_few, listed_few)

  position_back : (p : ℕ) → p < length (listed s) → position s (listed_at s p) ≡ p
  unfolding position listed listed_at
  position_back p h =
      let r = stands_at s.taken (list_group s) s.many 2 p h in
      rw r.is r.there

  listed_once : (p q : ℕ) → p < length (listed s) → q < length (listed s) → listed_at s p ≡ listed_at s q → p ≡ q
  listed_once p q h l e = sym (position_back p h) ∙ ap (position s) e ∙ position_back q l

  holder_early : (p : ℕ) → p < length (listed s) → holder_of s p ≤ p
  unfolding holder_of
  holder_early p h = holder_le (is_alike s) (length (listed s)) (alike_parts s) p h

  holder_itself : (p : ℕ) → p < length (listed s) → holder_of s (holder_of s p) ≡ holder_of s p
  unfolding holder_of is_holder
  holder_itself p h = eqb-true _ _ (holder_holds (is_alike s) (length (listed s)) (alike_parts s) p h)

-- ---- over the tables

module _ (T L H : List ℕ) (n m : ℕ) (name : ℕ → List ℕ) where
  abbrev s : Candidates
  s = candidates_in T n name

  many_is : s.many ≡ n
  unfolding candidates_in
  many_is = refl

  module _ (r : RowsOf T n name) (l : ListOf s L m) (h : HoldersOf s H m) where
    long_is : length (listed s) ≡ m
    long_is = sym (list_long s L m l)

    in_list_lem : (p : ℕ) → p < m → p < length (listed s)
    in_list_lem p u = rw long_is u

    id_lt : (p : ℕ) → p < m → half_in L p < n
    id_lt p u = rw many_is at (list_taken s L m l p u).0

    held_word : (p : ℕ) → p < m → half_in H p < m
    held_word p u = holder_in s L m l H h p u

    -- ---- groups and holders

    local_is : (i : ℕ) → is_local s i ≡ eqb (id_binding T i) 0
    unfolding is_local candidates_in
    local_is i = refl

    row_taken : (p : ℕ) → p < m → id_taken T (half_in L p) ≡ true
    unfolding candidates_in
    row_taken p u = (list_taken s L m l p u).1

    pub result_group_is : (p : ℕ) → p < m → result_group_in T L p ≡ group_at_position s p
    unfolding result_group_in group_at_position result_group
    result_group_is p u = rw (← list_at s L m l p u, local_is (half_in L p), ← r.gp_disp (half_in L p) (id_lt p u) (row_taken p u))

    pub holder_is : (p : ℕ) → p < m → holds_in H p ≡ is_merged s p
    unfolding holds_in is_merged is_holder holder_of
    holder_is p u = ap (λ (x : ℕ). eqb x p) (h.is p u)

    -- ---- what the code asks of the tables

    pub tables_in_lem : Tables T L H m
    tables_in_lem = record { few = omega (arith, r.few, listed_few s, long_is, many_is); held = holders_of T n name r L m l H h }

    pub holders_first : HoldersFirst L H m
    holders_first = record {
      once = λ p q u v e. listed_once s p q (in_list_lem p u) (in_list_lem q v) (sym (list_at s L m l p u) ∙ e ∙ list_at s L m l q v);
      early = λ p u. rw (h.is p u) (holder_early s p (in_list_lem p u));
      itself = λ p u. h.is (half_in H p) (held_word p u) ∙ ap (holder_of s) (h.is p u) ∙ holder_itself s p (in_list_lem p u) ∙ sym (h.is p u);
    }

    pub room_in : (N : List ℕ) → 2 * n ≤ length N → IdRoom L m N
    room_in N u = record { word = λ p v. omega (arith, id_lt p v) }

    -- ---- the order

    pub order_is : (k : ℕ) → order_in T L H m k ≡ grouped (is_merged s) (group_at_position s) (length (listed s)) k
    unfolding order_in
    order_is k = rw long_is (grouped_same (holds_in H) (is_merged s) (result_group_in T L) (group_at_position s) m holder_is (λ p u t. result_group_is p u) k)

    pub order_merged : order_in T L H m RESULT_GROUPS ≡ merged s
    unfolding merged
    order_merged = order_is RESULT_GROUPS

    pub order_of_lem : (O : List ℕ) → 2 * m ≤ length O → halves_in O (length (order_in T L H m RESULT_GROUPS)) ≡ order_in T L H m RESULT_GROUPS → OrderOf s O
    unfolding merged_count
    order_of_lem O u e = record { long = omega (arith, merged_few s, long_is); is = rw order_merged at e }

    start_at : (starts : List ℕ) (k : ℕ) → starts ≡ group_starts T L H m → k < RESULT_GROUPS + 1 → get_or starts k 0 ≡ length (order_in T L H m k)
    unfolding group_starts
    start_at starts k e u = rw e (select_all_at (λ g. length (order_in T L H m g)) k (RESULT_GROUPS + 1) 0 u)

    pub starts_of : (starts : List ℕ) → starts ≡ group_starts T L H m → StartsOf s starts
    unfolding local_count merged_count merged
    starts_of starts e = record {
      locals = rw (start_at starts LOCAL_GROUPS e (omega arith), order_is LOCAL_GROUPS);
      all = rw (start_at starts RESULT_GROUPS e (omega arith), order_is RESULT_GROUPS);
    }

    -- ---- the numbers

    number_at_is : (p : ℕ) → p < m → number_at T L H m p ≡ grouped_place (is_merged s) (group_at_position s) (length (listed s)) (holder_of s p) + 1
    unfolding number_at
    number_at_is p u =
        rw (long_is, ← h.is p u)
        (ap (λ (x : ℕ). x + 1) (place_same (holds_in H) (is_merged s) (result_group_in T L) (group_at_position s) m holder_is (λ q v t. result_group_is q v) (half_in H p) (held_word p u) (holds_self H (half_in H p) (holders_first.itself p u))))

    number_taken : (i : ℕ) → Taken s i → number_by T L H m i m ≡ number_of s i
    unfolding number_of
    number_taken i t =
        let u : position s i < m = rw (← long_is) (position_lt s i t) in
        let e : half_in L (position s i) ≡ i = list_at s L m l (position s i) u ∙ listed_position s i t in
        ap (λ (j : ℕ). number_by T L H m j m) (sym e) ∙ by_position T L H m holders_first (position s i) m u (omega arith) ∙ number_at_is (position s i) u

    number_left : (i : ℕ) → s.taken i ≡ false → number_by T L H m i m ≡ 0
    number_left i f = by_none T L H m i m (λ p u e. both (rw e at (list_taken s L m l p u).1) f)

    number_is : (i : ℕ) → i < s.many → number_by T L H m i m ≡ cond (s.taken i) (number_of s i) 0
    number_is i u = by-test (s.taken i) (λ t. rw t (number_taken i (u, t))) (λ f. rw f (number_left i f))

    pub numbers_of : (N : List ℕ) → 2 * n ≤ length N → IdsNumbered T L H m m N → NumbersOf s N
    numbers_of N u w = record { long = rw many_is u; is = λ i v. w.word i (omega (arith, many_is)) ∙ number_is i v }

-- ---- candidates that agree have one order and one number each

module _ (s t : Candidates) (e : Agree s t) where
  pub starts_agree : (starts : List ℕ) → StartsOf s starts → StartsOf t starts
  starts_agree starts w = record { locals = w.locals ∙ locals_agree s t e; all = w.all ∙ count_agree s t e }

  pub order_agree : (O : List ℕ) → OrderOf s O → OrderOf t O
  order_agree O w = record { long = rw (← merged_agree s t e) w.long; is = rw (← merged_agree s t e) w.is }

  pub numbers_agree : (N : List ℕ) → NumbersOf s N → NumbersOf t N
  numbers_agree N w = record {
    long = rw (← e.many) w.long;
    is = λ i u.
        let v : i < s.many = rw e.many u in
        w.is i v ∙ by-test (s.taken i)
        (λ k. rw (← e.taken i v, k) (number_agree s t e i (v, k)))
        (λ f. rw (← e.taken i v, f));
  }

-- ---- an entry of the result, by the order in hand

module _ (s : Candidates) (O : List ℕ) (w : OrderOf s O) (k : ℕ) (a : 1 ≤ k) (b : k < merged_count s) where
  below : k - 1 < length (merged s)
  unfolding merged_count
  below = omega arith

  entry_word : get_or (merged s) (k - 1) 0 ≡ half_in O (k - 1)
  unfolding halves_in
  entry_word = ap (λ (x : List ℕ). get_or x (k - 1) 0) (sym w.is) ∙ select_all_at (half_in O) (k - 1) (length (merged s)) 0 below

  pub entry_is : merged_at s k ≡ listed_at s (half_in O (k - 1))
  unfolding merged_at
  entry_is = ap (listed_at s) entry_word

  pub entry_lt : half_in O (k - 1) < length (listed s)
  unfolding merged
  entry_lt =
      let r = stands_at (is_merged s) (group_at_position s) (length (listed s)) RESULT_GROUPS (k - 1) below in
      rw (← entry_word, r.is) r.small

-- ---- what an object's symbol becomes

module _ (s : Candidates) (N : List ℕ) (w : NumbersOf s N) (from many k : ℕ) (u : from + many ≤ s.many) where
  pub new_is : new_in N from many k ≡ new_of s from many k
  unfolding new_of
  new_is = by-lt k many
      (λ l. new_in_lem N from many k l ∙ by-test (s.taken (from + k))
      (λ t.
      let e : half_in N (from + k) ≡ number_of s (from + k) = w.is (from + k) (omega arith) ∙ rw t in
      let g = (number_in s (from + k) (omega arith, t)).0 in
      rw (lt-ltb k many l, t, e) (symbol_some (number_of s (from + k)) (record { 0 = number_of s (from + k) }) (λ z. absurd (omega arith)) refl))
      (λ f.
      let e : half_in N (from + k) ≡ 0 = w.is (from + k) (omega arith) ∙ rw f in
      rw (lt-ltb k many l, f) (symbol_none (half_in N (from + k)) e)))
      (λ l. rw (le-ltb k many l) (new_past N from many k l))

-- the two cases of a symbol, told apart
abbrev is_entry : Option MergedSymbol → Bool
is_entry (Some x) = true
is_entry None = false

abbrev entry_of : Option MergedSymbol → ℕ
entry_of (Some x) = x.0
entry_of None = 0

entry_same : (x y : MergedSymbol) → Some x ≡ Some y → x.0 ≡ y.0
entry_same x y e = ap entry_of e

entry-not-gone {ℓ} : {A : Type ℓ} (x : MergedSymbol) → Some x ≡ None → A
entry-not-gone x e = both refl (ap is_entry e)

module _ (s : Candidates) (from many k : ℕ) where
  pub record Became (x : MergedSymbol) : Type 0 where
    pub own : k < many
    pub taken : s.taken (from + k) ≡ true
    pub number : x.0 ≡ number_of s (from + k)

  pub new_merged : (x : MergedSymbol) → new_of s from many k ≡ Some x → Became x
  unfolding new_of
  new_merged x e = by-test (ltb k many && s.taken (from + k))
      (λ t.
      let r = and_parts (ltb k many) (s.taken (from + k)) t in
      let q : Some (record { 0 = number_of s (from + k) }) ≡ Some x = rw t at e in
      record { own = ltb-true k many r.0; taken = r.1; number = sym (entry_same _ x q) })
      (λ f. let q : None ≡ Some x = rw f at e in entry-not-gone x (sym q))

  pub new_gone : new_of s from many k ≡ None → (ltb k many && s.taken (from + k)) ≡ false
  unfolding new_of
  new_gone e = by-test (ltb k many && s.taken (from + k))
      (λ t. let q : Some (record { 0 = number_of s (from + k) }) ≡ None = rw t at e in entry-not-gone _ q)
      (λ f. f)
