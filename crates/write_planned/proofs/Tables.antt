-- The tables in hand say what a relocation table of the result holds. Assumes nothing.
use Prim.Native.Nat.{ℕ, ◌≤◌, ◌<◌}
use mathlib.Core.Path.{◌≡◌, ap, ◌∙◌}
use mathlib.Core.Bool.{Bool, true, not, ◌||◌}
use mathlib.Core.List.{List, [], ◌++◌}
use native.Mathlib.Omega.{arith}
use lib.ListN.{length}
use lib.Dec.{ltb}
use borrow.Author.Tests.{lt-ltb, le-ltb}
use Rattle.base_lists.specs.Ranges.{pick_list}
use Rattle.base_lists.proofs.Ranges.{and_parts}
use Rattle.base_fields.specs.declared.ByteOrder.{ByteOrder}
use Rattle.base_scope.specs.Limits.{FILE_LIMIT}
use Rattle.elf_readers.specs.Readers.{section_count, coded_contents}
use Rattle.elf_relocations.specs.Relocations.{is_table}
use Rattle.merge_buffers.specs.Buffers.{late_step_part, numbers_part}
use Rattle.write_plan.specs.of_merge_sections.declared.Stage.{Stage}
use Rattle.merge_kept.specs.Kept.{kept}
use Rattle.merge_kept.proofs.Kept.{kept_le}
use Rattle.statics_table.specs.Statics.{name_head}
use Rattle.symbols_taken.proofs.Sections.{table_kind}
use Rattle.symbols_taken.specs.Used.{is_source_table}
use Rattle.carry_clash.specs.Clash.{carried_code, is_carried}
use Rattle.carry_stage.specs.of_carry_entries.declared.Side.{Side}
use Rattle.carry_stage.specs.of_carry_entries.Entries.{Carrying, carried_bytes}
use Rattle.carry_stage.specs.of_carry_entries.Carried.{carrying_c, carrying_a}
use Rattle.carry_stage.specs.of_carry_entries.Code.{carrying_in, EntriesRead}
use Rattle.carry_homes.specs.declared.Homes.{Homes}
use Rattle.carry_homes.specs.Homes.{carried_count, carried_table, joined_bytes}
use Rattle.carry_homes.specs.Code.{HomesFound}
use Rattle.carry_homes.proofs.Tables.{carried_lt, carried_is, carried_few}
use Rattle.carry_stage.specs.declared.Carry.{Carry}
use Rattle.carry_stage.specs.Tables.{text_spans_part, homes_part}
use Rattle.carry_stage.specs.Carry.{side_of_c, side_of_a}
use Rattle.carry_stage.proofs.Stage.{entries_c, entries_a, carrying_c_is, carrying_a_is}
use Rattle.write_tables.specs.Tables.{joined_in, TableRows}
use Rattle.write_tables.proofs.Tables.{joined_is}
use Rattle.write_plan.specs.Plan.{is_planned_table, table_bytes}
use Rattle.write_planned.specs.declared.Writing.{Writing}
use Rattle.write_planned.specs.Held.{held_places, held_is_table, held_table, PlanHeld}
use Rattle.write_planned.specs.Tables.{kept_table_in, joined_table_in, KeptRead, JoinedRead}
use Rattle.write_planned.proofs.Held.{held_carry}

-- ---- by a side

module _ (C : List ℕ) (s : Stage) (k : Carry) (rows late N : List ℕ) (i : ℕ) where
  module _ (side : Side) (is : side ≡ side_of_c s k) (l : i < k.stay) where
    pub kept_asked : KeptRead C s k rows late N i
        → EntriesRead C side rows late N × (i < section_count side.order C) × (is_table side.order C i ≡ true) × (length C ≤ FILE_LIMIT)
    unfolding side_of_c
    kept_asked x = rw is (x.entries, x.below l, x.kind l, x.small)

    pub kept_here : carried_bytes side.order C (carrying_in C side rows late N) i ≡ kept_table_in C s k rows late N i
    unfolding kept_table_in side_of_c
    kept_here = rw (is, lt-ltb i k.stay l)

  pub kept_none : k.stay ≤ i → [] ≡ kept_table_in C s k rows late N i
  unfolding kept_table_in
  kept_none l = rw (le-ltb i k.stay l)

module _ (A : List ℕ) (s : Stage) (k : Carry) (rows late N homes : List ℕ) (side : Side) (is : side ≡ side_of_a s k) where
  pub joined_asked : JoinedRead A s k rows late N homes
      → EntriesRead A side rows late N × TableRows side.order A homes k.homes.tables × (length A ≤ FILE_LIMIT)
  unfolding side_of_a
  joined_asked x = rw is (x.entries, x.tables, x.small)

  pub joined_here : (i n : ℕ) → n ≡ k.homes.tables
      → joined_in homes (carried_bytes side.order A (carrying_in A side rows late N)) i n ≡ joined_table_in A s k rows late N homes i
  unfolding joined_table_in side_of_a
  joined_here i n e = rw (is, e)

-- ---- the rows of the homes

module _ (o : ByteOrder) (C A : List ℕ) (stay : ℕ) (found : Homes) (homes : List ℕ) (w : HomesFound o C A stay found homes) where
  carried_kind : (t : ℕ) → is_carried o A t ≡ true → is_table o A t ≡ true
  unfolding is_carried
  carried_kind t e = table_kind o A t (and_parts (is_source_table o A t) (ltb 0 (length (coded_contents o A (carried_code o A t)))) e).0

  pub homes_rows : section_count o A ≤ 128 → TableRows o A homes found.tables
  homes_rows few = rw w.tables (record {
    few = omega (arith, few, carried_few o A);
    long = w.listed.tables.few;
    below = λ j l. rw (w.listed.tables.is j l) (carried_lt o A j l);
    kind = λ j l. rw (w.listed.tables.is j l) (carried_kind (carried_table o A j) (carried_is o A j l));
  })

-- ---- by what is in hand

planned_table : (a b : Bool) → (not a || b) ≡ true → a ≡ true → b ≡ true
planned_table a b e t = rw t at e

module _ (C A B path : List ℕ) (x : Writing) (table places steps index : List ℕ) (h : PlanHeld C A B path x table places steps index) (rows late N homes : List ℕ)
    (p : rows ≡ text_spans_part index) (q : late ≡ late_step_part steps) (u : N ≡ numbers_part index) (v : homes ≡ homes_part places) (i : ℕ) where
  abbrev o : ByteOrder
  o = x.stage.inputs.order

  table_own : held_is_table C A B path x places i ≡ true → i < x.carry.stay → is_table o C i ≡ true
  unfolding is_planned_table
  table_own t l = planned_table (ltb i (kept o C x.flag)) (is_table o C i) t (lt-ltb i (kept o C x.flag) (rw (← h.carried.stays) l))

  pub kept_read : held_is_table C A B path x places i ≡ true → KeptRead C x.stage x.carry rows late N i
  kept_read t = rw (p, q, u) (record {
    entries = entries_c C A (held_places B places) B x.stage x.manner x.carry steps index (held_carry C A B path x table places steps index h);
    below = λ l. omega (arith, l, h.carried.stays, kept_le o C x.flag);
    kind = table_own t;
    small = h.read.read.compiled_small;
  })

  pub joined_read : JoinedRead A x.stage x.carry rows late N homes
  joined_read = rw (p, q, u, v) (record {
    entries = entries_a C A (held_places B places) B x.stage x.manner x.carry steps index (held_carry C A B path x table places steps index h);
    tables = homes_rows o C A x.carry.stay x.carry.homes (homes_part places) h.carried.found h.read.read.assembled.named.headed.few;
    small = h.read.read.assembled_small;
  })

  abbrev head : ℕ
  head = length (name_head x.manner.mode path)

  kept_is : kept_table_in C x.stage x.carry rows late N i
      ≡ pick_list (ltb i (kept o C x.flag)) (carried_bytes o C (carrying_c o C A (held_places B places) B x.manner.mode head) i) []
  unfolding kept_table_in
  kept_is =
      let e : carrying_in C (side_of_c x.stage x.carry) rows late N ≡ carrying_c o C A (held_places B places) B x.manner.mode head =
      rw (p, q, u) (carrying_c_is C A (held_places B places) B x.stage x.manner x.carry steps index (held_carry C A B path x table places steps index h)
      ∙ ap (λ (n : ℕ). carrying_c o C A (held_places B places) B x.manner.mode n) h.head) in
      ap (λ (n : ℕ). pick_list (ltb i n) (carried_bytes o C (carrying_in C (side_of_c x.stage x.carry) rows late N) i) []) h.carried.stays
      ∙ ap (λ (y : Carrying). pick_list (ltb i (kept o C x.flag)) (carried_bytes o C y i) []) e

  joined_are : joined_table_in A x.stage x.carry rows late N homes i
      ≡ joined_bytes o C A (kept o C x.flag) (carried_bytes o A (carrying_a o C A (held_places B places) B x.manner.mode head)) i
  unfolding joined_table_in
  joined_are =
      let w : Carrying = carrying_in A (side_of_a x.stage x.carry) rows late N in
      let e : w ≡ carrying_a o C A (held_places B places) B x.manner.mode head =
      rw (p, q, u) (carrying_a_is C A (held_places B places) B x.stage x.manner x.carry steps index (held_carry C A B path x table places steps index h)
      ∙ ap (λ (n : ℕ). carrying_a o C A (held_places B places) B x.manner.mode n) h.head) in
      ap (λ (n : ℕ). joined_in homes (carried_bytes o A w) i n) h.carried.found.tables
      ∙ ap (λ (l : List ℕ). joined_in l (carried_bytes o A w) i (carried_count o A)) v
      ∙ joined_is o C A x.carry.stay (homes_part places) h.carried.found.listed (carried_bytes o A w) i
      ∙ ap (λ (n : ℕ). joined_bytes o C A n (carried_bytes o A w) i) h.carried.stays
      ∙ ap (λ (y : Carrying). joined_bytes o C A (kept o C x.flag) (carried_bytes o A y) i) e

  pub table_is : kept_table_in C x.stage x.carry rows late N i ++ joined_table_in A x.stage x.carry rows late N homes i ≡ held_table C A B path x places i
  unfolding table_bytes
  table_is =
      ap (λ (l : List ℕ). l ++ joined_table_in A x.stage x.carry rows late N homes i) kept_is
      ∙ ap (λ (l : List ℕ). pick_list (ltb i (kept o C x.flag)) (carried_bytes o C (carrying_c o C A (held_places B places) B x.manner.mode head) i) [] ++ l) joined_are
