-- Candidates that agree on what is taken, and in all that is asked of it, have one list, one verdict, one result and one number each: so a stage that reads them from tables
-- answers for those of two objects. Assumes nothing.
use Prim.Native.Nat.{ℕ, ◌+◌, ◌-◌, ◌≤◌, ◌<◌}
use mathlib.Core.Path.{◌≡◌, refl, sym, ap, ◌∙◌}
use mathlib.Core.Bool.{Bool, true, false, cond, not, ◌&&◌, ◌||◌}
use mathlib.Core.List.{List}
use native.Mathlib.Omega.{arith}
use lib.ListN.{length, get_or}
use lib.Dec.{eqb}
use Rattle.base_lists.specs.Ranges.{first}
use Rattle.base_lists.specs.Strings.{same}
use Rattle.base_lists.proofs.Ranges.{by-test, first_ext}
use Rattle.base_groups.specs.Groups.{grouped, grouped_place}
use Rattle.base_groups.specs.Holders.{holder, is_holder}
use Rattle.base_groups.proofs.Groups.{grouped_same, place_same}
use Rattle.base_groups.proofs.Holders.{holder_lt}
use Rattle.base_scope.specs.Refusals.{LOOSE_SYMBOL, NAME_TWICE, found_below}
use Rattle.base_answers.specs.Answers.{NONE}
use Rattle.base_answers.specs.Verdicts.{also, finding_verdict}
use Rattle.symbols_merge.specs.Candidates.{Candidates, is_defined, is_unnamed, is_local, is_gp_disp}
use Rattle.symbols_merge.specs.Listed.{list_group, listed, position, listed_at, is_alike, holder_of, is_loose, is_elsewhere, symbols_verdict}
use Rattle.symbols_merge.specs.Merged.{RESULT_GROUPS, LOCAL_GROUPS, result_group, is_merged, group_at_position, merged, merged_count, local_count, number_of}
use Rattle.symbols_merge.proofs.Names.{alike_parts}
use Rattle.symbols_merge.proofs.Merged.{Taken, listed_taken, position_lt, holder_merged}

pub record Agree (s t : Candidates) : Type 0 where
  pub many : s.many ≡ t.many
  pub taken : (i : ℕ) → i < s.many → s.taken i ≡ t.taken i
  pub name : (i : ℕ) → i < s.many → s.taken i ≡ true → s.name i ≡ t.name i
  pub section : (i : ℕ) → i < s.many → s.taken i ≡ true → s.section i ≡ t.section i
  pub value : (i : ℕ) → i < s.many → s.taken i ≡ true → s.value i ≡ t.value i
  pub binding : (i : ℕ) → i < s.many → s.taken i ≡ true → s.binding i ≡ t.binding i

module _ (s t : Candidates) (a : Agree s t) where
  -- ---- one candidate

  group_agree : (i : ℕ) → i < s.many → s.taken i ≡ true → list_group s i ≡ list_group t i
  unfolding list_group is_defined
  group_agree i h u = rw (a.section i h u)

  defined_agree : (i : ℕ) → i < s.many → s.taken i ≡ true → is_defined s i ≡ is_defined t i
  unfolding is_defined
  defined_agree i h u = rw (a.section i h u)

  unnamed_agree : (i : ℕ) → i < s.many → s.taken i ≡ true → is_unnamed s i ≡ is_unnamed t i
  unfolding is_unnamed
  unnamed_agree i h u = rw (a.name i h u)

  local_agree : (i : ℕ) → i < s.many → s.taken i ≡ true → is_local s i ≡ is_local t i
  unfolding is_local
  local_agree i h u = rw (a.binding i h u)

  result_agree : (i : ℕ) → i < s.many → s.taken i ≡ true → result_group s i ≡ result_group t i
  unfolding result_group is_local is_gp_disp
  result_agree i h u = rw (a.binding i h u, a.name i h u)

  -- ---- the list

  pub listed_agree : listed s ≡ listed t
  unfolding listed
  listed_agree = grouped_same s.taken t.taken (list_group s) (list_group t) s.many a.taken group_agree 2
      ∙ ap (λ (n : ℕ). grouped t.taken (list_group t) n 2) a.many

  pub at_agree : (p : ℕ) → listed_at s p ≡ listed_at t p
  unfolding listed_at
  at_agree p = rw listed_agree

  abbrev m : ℕ
  m = length (listed s)

  long_agree : m ≡ length (listed t)
  long_agree = ap length listed_agree

  in_list_lem : (p : ℕ) → p < m → Taken s (listed_at s p)
  in_list_lem p h = listed_taken s p h

  pub position_agree : (i : ℕ) → Taken s i → position s i ≡ position t i
  unfolding position
  position_agree i u = place_same s.taken t.taken (list_group s) (list_group t) s.many a.taken group_agree i u.0 u.1
      ∙ ap (λ (n : ℕ). grouped_place t.taken (list_group t) n i) a.many

  -- ---- holders

  alike_agree : (p q : ℕ) → p < m → q < m → is_alike s p q ≡ is_alike t p q
  unfolding is_alike
  alike_agree p q h l =
      let i = in_list_lem p h in
      let j = in_list_lem q l in
      rw (unnamed_agree (listed_at s p) i.0 i.1, a.name (listed_at s p) i.0 i.1, a.name (listed_at s q) j.0 j.1, at_agree p, at_agree q)

  pub holder_agree : (p : ℕ) → p < m → holder_of s p ≡ holder_of t p
  unfolding holder_of holder
  holder_agree p h = first_ext (is_alike s p) (is_alike t p) 0 m (λ q l u. alike_agree p q h u) ∙ ap (λ (n : ℕ). first (is_alike t p) 0 n) long_agree

  merged_is : (p : ℕ) → p < m → is_merged s p ≡ is_merged t p
  unfolding is_merged is_holder holder_of
  merged_is p h = ap (λ (x : ℕ). eqb x p) (holder_agree p h)

  place_group : (p : ℕ) → p < m → is_merged s p ≡ true → group_at_position s p ≡ group_at_position t p
  unfolding group_at_position
  place_group p h u = result_agree (listed_at s p) (in_list_lem p h).0 (in_list_lem p h).1 ∙ ap (result_group t) (at_agree p)

  -- ---- 18 and 19

  loose_agree : (p : ℕ) → p < m → is_loose s p ≡ is_loose t p
  unfolding is_loose
  loose_agree p h =
      let i = in_list_lem p h in
      rw (local_agree (listed_at s p) i.0 i.1, defined_agree (listed_at s p) i.0 i.1, unnamed_agree (listed_at s p) i.0 i.1, at_agree p)

  holder_low : (p : ℕ) → p < m → holder_of s p < m
  unfolding holder_of
  holder_low p h = holder_lt (is_alike s) m (alike_parts s) p h

  elsewhere_agree : (p : ℕ) → p < m → is_elsewhere s p ≡ is_elsewhere t p
  unfolding is_elsewhere
  elsewhere_agree p h =
      let i = in_list_lem p h in
      let j = in_list_lem (holder_of s p) (holder_low p h) in
      rw (
        defined_agree (listed_at s p) i.0 i.1,
        a.section (listed_at s p) i.0 i.1,
        a.value (listed_at s p) i.0 i.1,
        a.section (listed_at s (holder_of s p)) j.0 j.1,
        a.value (listed_at s (holder_of s p)) j.0 j.1,
        at_agree p,
        at_agree (holder_of s p),
        holder_agree p h,
      )

  pub verdict_agree : symbols_verdict s ≡ symbols_verdict t
  unfolding symbols_verdict
  verdict_agree =
      rw (first_ext (is_loose s) (is_loose t) 0 m (λ p l u. loose_agree p u), first_ext (is_elsewhere s) (is_elsewhere t) 0 m (λ p l u. elsewhere_agree p u), long_agree)

  -- ---- the result

  grouped_agree : (k : ℕ) → grouped (is_merged s) (group_at_position s) m k ≡ grouped (is_merged t) (group_at_position t) (length (listed t)) k
  grouped_agree k = grouped_same (is_merged s) (is_merged t) (group_at_position s) (group_at_position t) m merged_is place_group k
      ∙ ap (λ (n : ℕ). grouped (is_merged t) (group_at_position t) n k) long_agree

  pub merged_agree : merged s ≡ merged t
  unfolding merged
  merged_agree = grouped_agree RESULT_GROUPS

  pub count_agree : merged_count s ≡ merged_count t
  unfolding merged_count
  count_agree = ap (λ (l : List ℕ). length l + 1) merged_agree

  pub locals_agree : local_count s ≡ local_count t
  unfolding local_count
  locals_agree = ap (λ (l : List ℕ). length l + 1) (grouped_agree LOCAL_GROUPS)

  pub number_agree : (i : ℕ) → Taken s i → number_of s i ≡ number_of t i
  unfolding number_of
  number_agree i u =
      let h : position s i < m = position_lt s i u in
      let e : holder_of s (position s i) ≡ holder_of t (position t i) = holder_agree (position s i) h ∙ ap (holder_of t) (position_agree i u) in
      ap (λ (x : ℕ). x + 1) (place_same (is_merged s) (is_merged t) (group_at_position s) (group_at_position t) m merged_is place_group (holder_of s (position s i)) (holder_low (position s i) h) (holder_merged s i u)
      ∙ ap (λ (n : ℕ). grouped_place (is_merged t) (group_at_position t) n (holder_of s (position s i))) long_agree
      ∙ ap (grouped_place (is_merged t) (group_at_position t) (length (listed t))) e)
