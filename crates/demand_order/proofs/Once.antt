-- Each reference that the result owes stands once in the row of all, and no other does: a table of C has a place among the sections that stay, a carried table of A stands once in
-- the order of carrying and has one home, and the entries of a table stand once. Assumes nothing.
use Prim.Native.Nat.{ℕ, ◌+◌, ◌<◌}
use mathlib.Core.Path.{◌≡◌, refl, sym, ap, ◌∙◌}
use mathlib.Core.Bool.{true, cond, ◌&&◌}
use mathlib.Core.List.{List, []}
use native.Mathlib.Omega.{arith}
use lib.Dec.{eqb, ltb}
use borrow.Author.Tests.{lt-ltb, ltb-true, eqb-true, eq-eqb}
use Rattle.base_lists.specs.Ranges.{gather, pick_list}
use Rattle.base_lists.proofs.Ranges.{by-test, both, and_parts, and_true}
use Rattle.base_fields.specs.declared.ByteOrder.{ByteOrder}
use Rattle.base_answers.specs.Answers.{COMPILED, ASSEMBLED}
use Rattle.elf_relocations.specs.Relocations.{is_table, relocation_count}
use Rattle.blocks_places.specs.Places.{Place}
use Rattle.merge_kept.specs.Kept.{kept}
use Rattle.merge_kept.proofs.Kept.{kept_le, table_kept}
use Rattle.carry_clash.specs.Clash.{is_carried}
use Rattle.carry_homes.specs.Homes.{carried_count, carried_table, new_count, home_of}
use Rattle.carry_homes.proofs.Tables.{carried_lt, carried_is, carried_once, carried_there}
use Rattle.carry_homes.proofs.Joins.{home_lt}
use Rattle.demand_clauses.specs.Reading.{Reference, times_in}
use Rattle.demand_clauses.specs.TakenOver.{stays_c, references_c, references_a, is_owed_c, is_owed_a, is_owed, origins_at, origins}
use Rattle.demand_clauses.proofs.Owed.{OwedC, OwedA, owed_c, c_owed, owed_a, a_owed}
use Rattle.demand_order.proofs.Times.{times_none, times_append, times_nowhere, times_only, row_without, row_once}

module _ (o : ByteOrder) (C A : List ℕ) (P : List Place) (B : List ℕ) (flag : ℕ) (r : Reference) where
  abbrev stay : ℕ
  stay = kept o C flag

  abbrev many : ℕ
  many = stay + new_count o C A (kept o C flag)

  abbrev home : ℕ → ℕ
  home = home_of o C A (kept o C flag)

  -- what C's table t brings; what A's j-th carried table brings; and those that join section t
  abbrev own : ℕ → List Reference
  own t = pick_list (ltb t stay && is_table o C t) (references_c o C A P B t) []

  abbrev brought : ℕ → List Reference
  brought j = references_a o C A P B (carried_table o A j)

  abbrev joining : ℕ → List Reference
  joining t = gather (λ j. eqb (home_of o C A (kept o C flag) j) t) (λ j. references_a o C A P B (carried_table o A j)) (carried_count o A)

  -- r is an entry of C that is owed; one of A
  abbrev MineC : Type 0
  MineC = (r.object ≡ COMPILED) × OwedC o C A P B r.table r.entry

  abbrev MineA : Type 0
  MineA = (r.object ≡ ASSEMBLED) × OwedA o C A P B r.table r.entry

  -- a section's are C's and those that join it
  times_at : (t : ℕ) → times_in (origins_at o C A P B flag t) r ≡ times_in (own t) r + times_in (joining t) r
  unfolding origins_at
  times_at t = times_append r (own t) (joining t)

  -- ---- C's

  -- only its own table has it, and that once
  own_without : (t : ℕ) → (MineC → r.table ≡ t → ⊥) → times_in (own t) r ≡ 0
  unfolding references_c
  own_without t d = by-test (ltb t stay && is_table o C t)
      (λ y.
      let q = and_parts (ltb t stay) (is_table o C t) y in
      let h : t < stay = ltb-true t stay q.0 in
      rw y (row_without r COMPILED t (stays_c o C A P B t) (relocation_count o C t) (λ a b l s.
      d (
        a,
        record {
          below = omega (arith, h, b, kept_le o C flag);
          table = ap (is_table o C) b ∙ q.1;
          entry = omega (arith, l, ap (relocation_count o C) b);
          stays = ap (λ (x : ℕ). stays_c o C A P B x r.entry) b ∙ s;
        },
      ) b)))
      (λ f. rw f (times_none r))

  own_once : MineC → times_in (own r.table) r ≡ 1
  unfolding references_c
  own_once m =
      let w = m.1 in
      rw (lt-ltb r.table stay (table_kept o C flag r.table w.below w.table), w.table)
      (row_once r COMPILED r.table (stays_c o C A P B r.table) (relocation_count o C r.table) m.0 refl w.entry w.stays)

  -- ---- A's

  -- likewise, of the one place where the table stands in the order of carrying, and of its one home
  brought_without : (j : ℕ) → j < carried_count o A → (MineA → r.table ≡ carried_table o A j → ⊥) → times_in (brought j) r ≡ 0
  unfolding references_a
  brought_without j h d =
      row_without r ASSEMBLED (carried_table o A j) (λ k. true) (relocation_count o A (carried_table o A j)) (λ a b l s.
      d (
        a,
        record {
          below = omega (arith, b, carried_lt o A j h);
          table = ap (is_carried o A) b ∙ carried_is o A j h;
          entry = omega (arith, l, ap (relocation_count o A) b);
        },
      ) b)

  brought_once : (j : ℕ) → MineA → r.table ≡ carried_table o A j → times_in (brought j) r ≡ 1
  unfolding references_a
  brought_once j m b =
      row_once r ASSEMBLED (carried_table o A j) (λ k. true) (relocation_count o A (carried_table o A j)) m.0 b
      (omega (arith, m.1.entry, ap (relocation_count o A) b)) refl

  joining_without : (t : ℕ) → (MineA → (j : ℕ) → j < carried_count o A → r.table ≡ carried_table o A j → home j ≡ t → ⊥) → times_in (joining t) r ≡ 0
  joining_without t d =
      times_nowhere r (λ j. eqb (home j) t) (λ j. brought j) (carried_count o A) (λ j h y. brought_without j h (λ m b. d m j h b (eqb-true (home j) t y)))

  joining_once : (j : ℕ) → j < carried_count o A → MineA → r.table ≡ carried_table o A j → times_in (joining (home j)) r ≡ 1
  joining_once j h m b =
      times_only r (λ i. eqb (home i) (home j)) (λ i. brought i) (carried_count o A) j h (eq-eqb (home j) (home j) refl)
      (λ i l y d. brought_without i l (λ n c. d (carried_once o A i j l h (sym c ∙ b))))
      ∙ brought_once j m b

  -- ---- all

  compiled_once : MineC → times_in (origins o C A P B flag) r ≡ 1
  unfolding origins
  compiled_once m =
      let none : (t : ℕ) → times_in (joining t) r ≡ 0 = λ t. joining_without t (λ n j h b e. absurd (omega (arith, m.0, n.0))) in
      let l : r.table < many = omega (arith, table_kept o C flag r.table m.1.below m.1.table) in
      times_only r (λ t. true) (origins_at o C A P B flag) many r.table l refl
      (λ t h y d. omega (arith, times_at t, none t, own_without t (λ n e. d (sym e))))
      ∙ times_at r.table
      ∙ rw (own_once m, none r.table)

  assembled_once : MineA → times_in (origins o C A P B flag) r ≡ 1
  unfolding origins
  assembled_once m =
      let none : (t : ℕ) → times_in (own t) r ≡ 0 = λ t. own_without t (λ n e. absurd (omega (arith, m.0, n.0))) in
      let s = carried_there o A r.table m.1.below m.1.table in
      times_only r (λ t. true) (origins_at o C A P B flag) many (home s.0) (home_lt o C A stay s.0 s.1) refl
      (λ t h y d. omega (arith, times_at t, none t, joining_without t (λ n j l b e. d (sym e ∙ ap home (carried_once o A j s.0 l s.1 (sym b ∙ sym s.2))))))
      ∙ times_at (home s.0)
      ∙ rw (none (home s.0), joining_once s.0 s.1 m (sym s.2))

  owed_nowhere : (MineC → ⊥) → (MineA → ⊥) → times_in (origins o C A P B flag) r ≡ 0
  unfolding origins
  owed_nowhere c a =
      times_nowhere r (λ t. true) (origins_at o C A P B flag) many
      (λ t h y. omega (arith, times_at t, own_without t (λ n e. c n), joining_without t (λ n j l b e. a n)))

  -- "none lost, doubled or added"
  pub owed_once : times_in (origins o C A P B flag) r ≡ cond (is_owed o C A P B r) 1 0
  unfolding is_owed
  owed_once = by-test (eqb r.object COMPILED)
      (λ x.
      let c : r.object ≡ COMPILED = eqb-true r.object COMPILED x in
      by-test (is_owed_c o C A P B r.table r.entry)
      (λ y. rw (x, y) (compiled_once (c, owed_c o C A P B r.table r.entry y)))
      (λ f. rw (x, f) (owed_nowhere (λ m. both (c_owed o C A P B r.table r.entry m.1) f) (λ m. omega (arith, c, m.0)))))
      (λ x. by-test (eqb r.object ASSEMBLED && is_owed_a o C A P B r.table r.entry)
      (λ y.
      let q = and_parts (eqb r.object ASSEMBLED) (is_owed_a o C A P B r.table r.entry) y in
      rw (x, y) (assembled_once (eqb-true r.object ASSEMBLED q.0, owed_a o C A P B r.table r.entry q.1)))
      (λ f. rw (x, f) (owed_nowhere (λ m. both (eq-eqb r.object COMPILED m.0) x)
      (λ m. both (and_true (eqb r.object ASSEMBLED) (is_owed_a o C A P B r.table r.entry) (eq-eqb r.object ASSEMBLED m.0) (a_owed o C A P B r.table r.entry m.1)) f))))
