-- What the merge of symbols keeps: every candidate that is taken has a number, the number leads to the symbol that holds its name, no name stands twice, a name that some
-- candidate defines is defined, at one place once 19 has passed, and locals come first. Assumes nothing.
use Prim.Native.Nat.{ℕ, ◌+◌, ◌-◌, ◌≤◌, ◌<◌}
use mathlib.Core.Path.{◌≡◌, refl, sym, ap, ◌∙◌}
use mathlib.Core.Bool.{Bool, true, false, cond, not, ◌&&◌}
use mathlib.Core.List.{List}
use mathlib.Core.Logic.{◌↔◌}
use native.Mathlib.Omega.{arith}
use lib.ListN.{length, get_or}
use lib.Dec.{eqb}
use borrow.Author.Tests.{eqb-true, eq-eqb}
use Rattle.base_lists.specs.Ranges.{first}
use Rattle.base_lists.proofs.Ranges.{by-test, by-lt, both, and_parts, none_first}
use Rattle.base_groups.specs.Groups.{grouped, grouped_place}
use Rattle.base_groups.specs.Holders.{is_holder}
use Rattle.base_groups.proofs.Groups.{Stands, stands_at, grouped_at, place_lt, place_high, group_below, group_above}
use Rattle.base_groups.proofs.Holders.{holder_le, holder_lt, holder_alike, holder_same, holder_holds, holder_once}
use Rattle.symbols_merge.specs.Candidates.{Candidates, is_defined, is_unnamed, is_local, is_gp_disp}
use Rattle.symbols_merge.specs.Listed.{list_group, listed, position, listed_at, is_alike, holder_of, is_elsewhere}
use Rattle.symbols_merge.specs.Merged.{RESULT_GROUPS, LOCAL_GROUPS, result_group, is_merged, group_at_position, merged, merged_count, local_count, merged_at, held_by, number_of}
use Rattle.symbols_merge.proofs.Names.{unnamed_one, alike_name, name_alike, same_unnamed, alike_parts}

plus_minus : (x : ℕ) → x + 1 - 1 ≡ x
plus_minus x = omega arith

not_false : (b : Bool) → not b ≡ false → b ≡ true
not_false true e = refl
not_false false e = both refl e

module _ (s : Candidates) where
  abbrev long : ℕ
  long = length (listed s)

  abbrev pub Taken : ℕ → Type 0
  Taken i = (i < s.many) × (s.taken i ≡ true)

  -- ---- the list: each candidate that is taken stands there once

  group_two : (i : ℕ) → list_group s i < 2
  unfolding list_group
  group_two i = by-test (is_defined s i) (λ e. rw e (omega arith)) (λ e. rw e (omega arith))

  pub position_lt : (i : ℕ) → Taken i → position s i < long
  unfolding position listed
  position_lt i t = place_lt s.taken (list_group s) s.many 2 i t.0 t.1 (group_two i)

  pub listed_position : (i : ℕ) → Taken i → listed_at s (position s i) ≡ i
  unfolding position listed listed_at
  listed_position i t = grouped_at s.taken (list_group s) s.many 2 i t.0 t.1 (group_two i)

  pub listed_taken : (p : ℕ) → p < long → Taken (listed_at s p)
  unfolding listed listed_at
  listed_taken p h =
      let r = stands_at s.taken (list_group s) s.many 2 p h in
      rw r.is (r.small, r.kept)

  -- ---- the holder of a name

  holder_in : (i : ℕ) → Taken i → holder_of s (position s i) < long
  unfolding holder_of
  holder_in i t = holder_lt (is_alike s) long (alike_parts s) (position s i) (position_lt i t)

  holder_is : (i : ℕ) → Taken i → is_alike s (position s i) (holder_of s (position s i)) ≡ true
  unfolding holder_of
  holder_is i t = holder_alike (is_alike s) long (alike_parts s) (position s i) (position_lt i t)

  pub held_taken : (i : ℕ) → Taken i → Taken (held_by s i)
  unfolding held_by
  held_taken i t = listed_taken (holder_of s (position s i)) (holder_in i t)

  -- it has that name
  pub held_name : (i : ℕ) → Taken i → s.name (held_by s i) ≡ s.name i
  unfolding held_by
  held_name i t = sym (alike_name s (position s i) (holder_of s (position s i)) (holder_is i t)) ∙ ap s.name (listed_position i t)

  -- candidates of one name have one holder
  pub held_same : (i j : ℕ) → Taken i → Taken j → is_unnamed s i ≡ false → s.name i ≡ s.name j → held_by s i ≡ held_by s j
  unfolding held_by holder_of
  held_same i j t u m e =
      let a : s.name (listed_at s (position s i)) ≡ s.name i = ap s.name (listed_position i t) in
      let b : s.name (listed_at s (position s j)) ≡ s.name j = ap s.name (listed_position j u) in
      ap (listed_at s) (holder_same (is_alike s) long (alike_parts s) (position s i) (position s j)
      (name_alike s (position s i) (position s j) (same_unnamed s _ _ a ∙ m) (a ∙ (e ∙ sym b))))

  -- an unnamed candidate holds itself
  pub held_unnamed : (i : ℕ) → Taken i → is_unnamed s i ≡ true → held_by s i ≡ i
  unfolding held_by
  held_unnamed i t m =
      ap (listed_at s) (sym (unnamed_one s (position s i) (holder_of s (position s i)) (ap (is_unnamed s) (listed_position i t) ∙ m) (holder_is i t)))
      ∙ listed_position i t

  -- ---- definitions: a name that some candidate defines has a holder that is defined

  defined_first : (i : ℕ) → is_defined s i ≡ true → list_group s i ≡ 0
  unfolding list_group
  defined_first i d = rw d

  first_defined : (i : ℕ) → list_group s i < 1 → is_defined s i ≡ true
  unfolding list_group
  first_defined i h = by-test (is_defined s i) (λ e. e) (λ e. absurd (omega (arith, rw e at h)))

  early_defined : (q : ℕ) → q < length (grouped s.taken (list_group s) s.many 1) → q < long → is_defined s (listed_at s q) ≡ true
  unfolding listed listed_at
  early_defined q h l =
      let r = stands_at s.taken (list_group s) s.many 2 q l in
      rw r.is (first_defined r.index (group_below s.taken (list_group s) s.many 2 q 1 r h))

  held_own_lem : (j : ℕ) → Taken j → is_defined s j ≡ true → is_defined s (held_by s j) ≡ true
  unfolding position held_by holder_of
  held_own_lem j u d =
      let a : position s j < length (grouped s.taken (list_group s) s.many (list_group s j + 1)) = place_high s.taken (list_group s) s.many j u.0 u.1 in
      let b : position s j < length (grouped s.taken (list_group s) s.many 1) = rw (defined_first j d) at a in
      let c : position s j < long = position_lt j u in
      early_defined (holder_of s (position s j)) (omega (arith, holder_le (is_alike s) long (alike_parts s) (position s j) c)) (holder_in j u)

  pub held_defined : (i j : ℕ) → Taken i → Taken j → is_unnamed s i ≡ false → s.name i ≡ s.name j → is_defined s j ≡ true → is_defined s (held_by s i) ≡ true
  held_defined i j t u m e d = ap (is_defined s) (held_same i j t u m e) ∙ held_own_lem j u d

  -- and, once 19 has passed, at the place of each candidate that defines it
  module _ (once : first (is_elsewhere s) 0 long ≡ long) where
    here_held : (j : ℕ) → Taken j → is_defined s j ≡ true → (s.section j ≡ s.section (held_by s j)) × (s.value j ≡ s.value (held_by s j))
    unfolding is_elsewhere held_by
    here_held j u d =
        let f = none_first (is_elsewhere s) 0 long (position s j) once (omega arith) (position_lt j u) in
        let at = listed_position j u in
        let g : not (eqb (s.section j) (s.section (held_by s j)) && eqb (s.value j) (s.value (held_by s j))) ≡ false = rw (at, d) at f in
        let h = and_parts (eqb (s.section j) (s.section (held_by s j))) (eqb (s.value j) (s.value (held_by s j))) (not_false _ g) in
        (eqb-true _ _ h.0, eqb-true _ _ h.1)

    pub held_place : (i j : ℕ) → Taken i → Taken j → is_unnamed s i ≡ false → s.name i ≡ s.name j → is_defined s j ≡ true
        → (s.section (held_by s i) ≡ s.section j) × (s.value (held_by s i) ≡ s.value j)
    held_place i j t u m e d =
        let r = here_held j u d in
        rw (held_same i j t u m e) (sym r.0, sym r.1)

  -- ---- numbers

  group_four : (p : ℕ) → group_at_position s p < RESULT_GROUPS
  unfolding group_at_position result_group
  group_four p = by-test (is_local s (listed_at s p))
      (λ a. by-test (is_gp_disp s (listed_at s p)) (λ b. rw (a, b) (omega arith)) (λ b. rw (a, b) (omega arith)))
      (λ a. by-test (is_gp_disp s (listed_at s p)) (λ b. rw (a, b) (omega arith)) (λ b. rw (a, b) (omega arith)))

  pub holder_merged : (i : ℕ) → Taken i → is_merged s (holder_of s (position s i)) ≡ true
  unfolding is_merged holder_of
  holder_merged i t = holder_holds (is_alike s) long (alike_parts s) (position s i) (position_lt i t)

  -- the number of a candidate leads to the symbol that holds its name
  pub number_leads : (i : ℕ) → Taken i → merged_at s (number_of s i) ≡ held_by s i
  unfolding merged_at number_of merged held_by
  number_leads i t = rw plus_minus
      (ap (listed_at s) (grouped_at (is_merged s) (group_at_position s) long RESULT_GROUPS (holder_of s (position s i)) (holder_in i t) (holder_merged i t) (group_four _)))

  pub number_in : (i : ℕ) → Taken i → (1 ≤ number_of s i) × (number_of s i < merged_count s)
  unfolding number_of merged merged_count
  number_in i t =
      let l = place_lt (is_merged s) (group_at_position s) long RESULT_GROUPS (holder_of s (position s i)) (holder_in i t) (holder_merged i t) (group_four _) in
      (omega arith, omega arith)

  -- ---- entries of the result

  abbrev Entry : ℕ → Type 0
  Entry k = Stands (is_merged s) (group_at_position s) long RESULT_GROUPS (k - 1)

  entry_of_lem : (k : ℕ) → 1 ≤ k → k < merged_count s → Entry k
  unfolding merged merged_count
  entry_of_lem k a b = stands_at (is_merged s) (group_at_position s) long RESULT_GROUPS (k - 1) (omega arith)

  entry_is : (k : ℕ) (r : Entry k) → merged_at s k ≡ listed_at s r.index
  unfolding merged_at merged
  entry_is k r = ap (listed_at s) r.is

  pub merged_taken : (k : ℕ) → 1 ≤ k → k < merged_count s → Taken (merged_at s k)
  merged_taken k a b =
      let r = entry_of_lem k a b in
      rw (entry_is k r) (listed_taken r.index r.small)

  merged_self : (p : ℕ) → is_merged s p ≡ true → holder_of s p ≡ p
  unfolding is_merged is_holder holder_of
  merged_self p m = eqb-true _ _ m

  -- an entry's own candidate has the entry's number
  back_at : (k : ℕ) (r : Entry k) → 1 ≤ k → Taken (listed_at s r.index) → position s (listed_at s r.index) ≡ r.index → number_of s (listed_at s r.index) ≡ k
  unfolding number_of
  back_at k r a t e =
      let h : holder_of s r.index ≡ r.index = merged_self r.index r.kept in
      rw (e, h, r.there) (omega arith)

  position_listed : (p : ℕ) → p < long → position s (listed_at s p) ≡ p
  unfolding position listed listed_at
  position_listed p h =
      let r = stands_at s.taken (list_group s) s.many 2 p h in
      rw r.is r.there

  pub number_back : (k : ℕ) → 1 ≤ k → k < merged_count s → number_of s (merged_at s k) ≡ k
  number_back k a b =
      let r = entry_of_lem k a b in
      rw (entry_is k r) (back_at k r a (listed_taken r.index r.small) (position_listed r.index r.small))

  -- no name stands twice
  once_at : (k l : ℕ) (r : Entry k) (q : Entry l) → is_unnamed s (listed_at s r.index) ≡ false
      → s.name (listed_at s r.index) ≡ s.name (listed_at s q.index) → k - 1 ≡ l - 1
  unfolding is_merged
  once_at k l r q m e =
      let d : r.index ≡ q.index = holder_once (is_alike s) long (alike_parts s) r.index q.index r.kept q.kept (name_alike s r.index q.index m e) in
      sym r.there ∙ (ap (grouped_place (is_merged s) (group_at_position s) long) d ∙ q.there)

  pub merged_once : (k l : ℕ) → 1 ≤ k → 1 ≤ l → k < merged_count s → l < merged_count s → is_unnamed s (merged_at s k) ≡ false
      → s.name (merged_at s k) ≡ s.name (merged_at s l) → k ≡ l
  merged_once k l a b c d m e =
      let r = entry_of_lem k a c in
      let q = entry_of_lem l b d in
      let f : k - 1 ≡ l - 1 = once_at k l r q (rw (entry_is k r) at m) (rw (entry_is k r, entry_is l q) at e) in
      omega arith

  -- an unnamed candidate has an entry of its own
  pub unnamed_own : (i : ℕ) → Taken i → is_unnamed s i ≡ true → merged_at s (number_of s i) ≡ i
  unnamed_own i t m = number_leads i t ∙ held_unnamed i t m

  -- ---- locals: they, and they alone, are below the count

  local_group : (i : ℕ) → is_local s i ≡ true → result_group s i < LOCAL_GROUPS
  unfolding result_group
  local_group i a = by-test (is_gp_disp s i) (λ b. rw (a, b) (omega arith)) (λ b. rw (a, b) (omega arith))

  group_local : (i : ℕ) → result_group s i < LOCAL_GROUPS → is_local s i ≡ true
  unfolding result_group
  group_local i h = by-test (is_local s i) (λ a. a) (λ a. absurd (omega (arith, rw a at h)))

  local_at : (k : ℕ) (r : Entry k) → 1 ≤ k → k < local_count s → is_local s (listed_at s r.index) ≡ true
  unfolding local_count group_at_position
  local_at k r a b = group_local _ (group_below (is_merged s) (group_at_position s) long RESULT_GROUPS (k - 1) LOCAL_GROUPS r (omega arith))

  at_local : (k : ℕ) (r : Entry k) → 1 ≤ k → is_local s (listed_at s r.index) ≡ true → k < local_count s
  unfolding local_count group_at_position
  at_local k r a t = by-lt k (length (grouped (is_merged s) (group_at_position s) long LOCAL_GROUPS) + 1)
      (λ l. l)
      (λ l. absurd (omega (arith, local_group _ t, group_above (is_merged s) (group_at_position s) long RESULT_GROUPS (k - 1) LOCAL_GROUPS r (omega arith))))

  pub locals_first : (k : ℕ) → 1 ≤ k → k < merged_count s → (k < local_count s) ↔ (is_local s (merged_at s k) ≡ true)
  locals_first k a b =
      let r = entry_of_lem k a b in
      rw (entry_is k r) (local_at k r a, at_local k r a)
