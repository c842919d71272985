-- The references that the result owes and the entries of its tables, side by side: both rows go table by table, C's entries of a table that are kept and then those of A's tables
-- that join it, so that each reference stands beside the entry that carries it. Assumes nothing.
use Rattle.std.specs.Prelude.{None}
use Prim.Native.Nat.{ℕ, ◌+◌, ◌/◌, ◌<◌}
use mathlib.Core.Path.{◌≡◌, refl, sym, ap, ◌∙◌}
use mathlib.Core.Logic.{◌⊎◌, inl, inr}
use mathlib.Core.Bool.{Bool, true, false}
use mathlib.Core.List.{List, []}
use native.Mathlib.Omega.{arith}
use lib.ListN.{length, get_or}
use lib.Dec.{eqb, ltb}
use borrow.Author.Tests.{lt-ltb, ltb-true, eqb-true}
use Rattle.base_lists.specs.Ranges.{gather}
use Rattle.base_lists.proofs.Ranges.{by-test, by-lt, both, gather_skip, gather_none, select_zero, select_all_length, select_all_at}
use Rattle.base_fields.specs.declared.ByteOrder.{ByteOrder}
use Rattle.base_answers.specs.Answers.{NONE, COMPILED, ASSEMBLED}
use Rattle.elf_records.specs.declared.relocation.RelocationEntry.{RelocationEntry}
use Rattle.elf_readers.specs.Readers.{order_of, section}
use Rattle.elf_relocations.specs.Relocations.{is_table, entry_size, relocation_count, relocation}
use Rattle.elf_relocations.proofs.Relocations.{size_cases}
use Rattle.blocks_places.specs.Places.{Place, places_of}
use Rattle.statics_table.specs.Statics.{name_head}
use Rattle.merge_kept.specs.Kept.{kept}
use Rattle.merge_kept.proofs.Kept.{kept_le}
use Rattle.carry_clash.specs.Clash.{clash_finding}
use Rattle.demand_clauses.specs.of_carry_entries.Entries.{Carrying, is_kept, carried_entry}
use Rattle.demand_clauses.specs.of_carry_entries.Carried.{carrying_c, carrying_a}
use Rattle.carry_homes.specs.Homes.{carried_count, carried_table, new_count, home_of}
use Rattle.carry_homes.proofs.Tables.{carried_lt, carried_is}
use Rattle.write_object.specs.Object.{moved_finding}
use Rattle.merge_verdict.specs.of_write_plan.Plan.{is_planned_table, merged_plan, merged_object}
use Rattle.merge_verdict.specs.of_write_plan.Tables.{kept_entries, joined_entries, table_entries}
use Rattle.merge_verdict.proofs.of_write_plan.Sections.{planned_kept, planned_new}
use Rattle.merge_verdict.proofs.of_write_plan.Headers.{merged_count_lem}
use Rattle.merge_verdict.proofs.of_write_plan.Entries.{blank_entry}
use Rattle.merge_verdict.proofs.of_write_plan.Relocations.{table_merged, relocation_count_merged, relocation_merged, home_planned}
use Rattle.merge_verdict.specs.Verdict.{MergePassed}
use Rattle.demand_clauses.specs.Reading.{Reference, no_reference, reference_at, entries_at, all_entries}
use Rattle.demand_clauses.specs.TakenOver.{stays_c, references_c, references_a, is_owed, origins_at, origins, is_compiled}
use Rattle.demand_order.proofs.Matched.{Matched, matched_append, matched_gather, matched_select}
use Rattle.demand_clauses.proofs.Owed.{compiled_owed, assembled_owed}
use Rattle.demand_order.proofs.Goals.{kept_c, kept_a}

-- a table with an entry has bytes
entry_some : (w s k : ℕ) → (w ≡ 8) ⊎ (w ≡ 12) → k < s / w → 0 < s
entry_some w s k (inl e) l = let m : k < s / 8 = rw e at l in omega (arith, m)
entry_some w s k (inr e) l = let m : k < s / 12 = rw e at l in omega (arith, m)

pub table_some : (o : ByteOrder) (F : List ℕ) (t k : ℕ) → k < relocation_count o F t → 0 < (section o F t).sh_size
unfolding relocation_count
table_some o F t k h = entry_some (entry_size o F t) (section o F t).sh_size k (size_cases o F t) h

module _ (o : ByteOrder) (C A : List ℕ) (P : List Place) (B path : List ℕ) (flag mode : ℕ) where
  abbrev stay : ℕ
  stay = kept o C flag

  abbrev many : ℕ
  many = stay + new_count o C A (kept o C flag)

  -- how C's entries and A's are carried
  abbrev w_c : Carrying
  w_c = carrying_c o C A P B mode (length (name_head mode path))

  abbrev w_a : Carrying
  w_a = carrying_a o C A P B mode (length (name_head mode path))

  abbrev planned : ℕ → Bool
  planned = is_planned_table o C A P B path flag mode

  -- a reference r that is owed is carried as the entry e of table t of the result
  record Carries (t : ℕ) (r : Reference) (e : RelocationEntry) : Type 0 where
    pub owed : is_owed o C A P B r ≡ true
    pub compiled : is_compiled o C A P B r ≡ true → (t ≡ r.table) × (e ≡ carried_entry o C w_c r.table r.entry)
    pub assembled : is_compiled o C A P B r ≡ false → (i : ℕ) × (i < carried_count o A) × (carried_table o A i ≡ r.table) × (home_of o C A (kept o C flag) i ≡ t)
        × (e ≡ carried_entry o A w_a r.table r.entry)

  -- ---- one entry

  -- C's entry that stays, and any of a carried table of A
  carries_c : (t k : ℕ) → t < stay → is_table o C t ≡ true → k < relocation_count o C t → stays_c o C A P B t k ≡ true
      → Carries t (record { object = COMPILED; table = t; entry = k }) (carried_entry o C w_c t k)
  unfolding is_compiled
  carries_c t k h is l y = record {
    owed = compiled_owed o C A P B t k (record { below = omega (arith, h, kept_le o C flag); table = is; entry = l; stays = y });
    compiled = λ e. (refl, refl);
    assembled = λ f. both refl f;
  }

  carries_a : (i k : ℕ) → i < carried_count o A → k < relocation_count o A (carried_table o A i)
      → Carries (home_of o C A (kept o C flag) i) (record { object = ASSEMBLED; table = carried_table o A i; entry = k }) (carried_entry o A w_a (carried_table o A i) k)
  unfolding is_compiled
  carries_a i k h l = record {
    owed = assembled_owed o C A P B (carried_table o A i) k (record { below = carried_lt o A i h; table = carried_is o A i h; entry = l });
    compiled = λ e. both e refl;
    assembled = λ f. (i, h, refl, refl, refl);
  }

  -- ---- the entries of one table

  -- C's
  own_matched : (t : ℕ) → t < stay → is_table o C t ≡ true → Matched (Carries t) (references_c o C A P B t) (kept_entries o C w_c t)
  unfolding references_c kept_entries
  own_matched t h is =
      matched_select (Carries t) (stays_c o C A P B t) (is_kept o C w_c t) (λ k. record { object = COMPILED; table = t; entry = k }) (carried_entry o C w_c t) (relocation_count o C t)
      (λ k l. kept_c o C A P B mode (length (name_head mode path)) t k)
      (λ k l y. carries_c t k h is l y)

  -- those of a carried table, and of all that join table t
  table_matched : (i : ℕ) → i < carried_count o A
      → Matched (Carries (home_of o C A (kept o C flag) i)) (references_a o C A P B (carried_table o A i)) (kept_entries o A w_a (carried_table o A i))
  unfolding references_a kept_entries
  table_matched i h =
      matched_select (Carries (home_of o C A (kept o C flag) i)) (λ k. true) (is_kept o A w_a (carried_table o A i))
      (λ k. record { object = ASSEMBLED; table = carried_table o A i; entry = k }) (carried_entry o A w_a (carried_table o A i)) (relocation_count o A (carried_table o A i))
      (λ k l. sym (kept_a o C A P B mode (length (name_head mode path)) (carried_table o A i) k))
      (λ k l y. carries_a i k h l)

  abbrev joins : ℕ → ℕ → Bool
  joins t = λ j. eqb (home_of o C A (kept o C flag) j) t

  abbrev joining : ℕ → List Reference
  joining t = gather (joins t) (λ j. references_a o C A P B (carried_table o A j)) (carried_count o A)

  joined_matched : (t : ℕ) → Matched (Carries t) (joining t) (joined_entries o C A P B path flag mode t)
  unfolding joined_entries
  joined_matched t =
      matched_gather (Carries t) (joins t) (joins t) (λ j. references_a o C A P B (carried_table o A j)) (λ j. kept_entries o A w_a (carried_table o A j)) (carried_count o A)
      (λ j h. refl)
      (λ j h y. rw (eqb-true (home_of o C A (kept o C flag) j) t y) at (table_matched j h))

  -- all of table t
  origins_matched : (t : ℕ) → planned t ≡ true → Matched (Carries t) (origins_at o C A P B flag t) (table_entries o C A P B path flag mode t)
  unfolding origins_at table_entries
  origins_matched t y = by-test (ltb t stay)
      (λ b.
      let h : t < stay = ltb-true t stay b in
      let is : is_table o C t ≡ true = sym (planned_kept o C A P B path flag mode t h) ∙ y in
      rw (b, is)
      (matched_append (Carries t) (references_c o C A P B t) (kept_entries o C w_c t) (joining t) (joined_entries o C A P B path flag mode t) (own_matched t h is) (joined_matched t)))
      (λ f. rw f (joined_matched t))

  -- ---- a section that is no table

  -- brings none: what joins it has no entries
  no_references : (t : ℕ) → relocation_count o A t ≡ 0 → references_a o C A P B t ≡ []
  unfolding references_a
  no_references t e = rw e (select_zero (λ k. true) (λ k. record { object = ASSEMBLED; table = t; entry = k }))

  module _ (unclashed : clash_finding o C A flag ≡ None) (t : ℕ) (f : planned t ≡ false) where
    joins_nothing : (j : ℕ) → j < carried_count o A → joins t j ≡ true → references_a o C A P B (carried_table o A j) ≡ []
    joins_nothing j h y = by-lt 0 (relocation_count o A (carried_table o A j))
        (λ l.
        let e : home_of o C A (kept o C flag) j ≡ t = eqb-true (home_of o C A (kept o C flag) j) t y in
        both (ap planned (sym e) ∙ home_planned o C A P B path flag mode unclashed j h (table_some o A (carried_table o A j) 0 l)) f)
        (λ l. no_references (carried_table o A j) (omega (arith, l)))

    joining_nothing : joining t ≡ []
    joining_nothing =
        gather_skip (joins t) (λ j. false) (λ j. references_a o C A P B (carried_table o A j)) (carried_count o A)
        (λ j h d. by-test (joins t j) (λ y. joins_nothing j h y) (λ n. absurd (d n)))
        ∙ gather_none (λ j. false) (λ j. references_a o C A P B (carried_table o A j)) (carried_count o A) (λ j h. refl)

    origins_nothing : origins_at o C A P B flag t ≡ []
    unfolding origins_at
    origins_nothing =
        let h : t < stay = by-lt t stay (λ l. l) (λ l. both (planned_new o C A P B path flag mode t l) f) in
        let n : is_table o C t ≡ false = sym (planned_kept o C A P B path flag mode t h) ∙ f in
        rw (lt-ltb t stay h, n) joining_nothing

  -- so the tables alone bring references
  origins_tables : clash_finding o C A flag ≡ None → origins o C A P B flag ≡ gather planned (origins_at o C A P B flag) many
  unfolding origins
  origins_tables unclashed =
      gather_skip (λ t. true) planned (origins_at o C A P B flag) many
      (λ t h d. by-test (planned t) (λ y. absurd (d (sym y))) (λ f. origins_nothing unclashed t f))

  -- ---- all of them

  -- a reference r that is owed, and entry k of table t of the object O
  module _ (O : List ℕ) where
    pub record Paired (r : Reference) (t k : ℕ) : Type 0 where
      pub owed : is_owed o C A P B r ≡ true
      pub there : t < kept o C flag + new_count o C A (kept o C flag)
      pub table : is_planned_table o C A P B path flag mode t ≡ true
      pub compiled : is_compiled o C A P B r ≡ true → (t ≡ r.table) × (relocation o O t k ≡ carried_entry o C w_c r.table r.entry)
      pub assembled : is_compiled o C A P B r ≡ false → (i : ℕ) × (i < carried_count o A) × (carried_table o A i ≡ r.table) × (home_of o C A (kept o C flag) i ≡ t)
          × (relocation o O t k ≡ carried_entry o A w_a r.table r.entry)

    abbrev Beside : Reference → Reference → Type 0
    Beside r s = Paired r s.table s.entry

  abbrev O : List ℕ
  O = merged_object o C A P B path flag mode

  module _ (clear : moved_finding (merged_plan o C A P B path flag mode) o ≡ None) (unclashed : clash_finding o C A flag ≡ None) where
    module _ (t : ℕ) (h : t < many) (y : planned t ≡ true) where
      abbrev entries : List RelocationEntry
      entries = table_entries o C A P B path flag mode t

      abbrev row_at : ℕ → Reference
      row_at k = record { object = NONE; table = t; entry = k }

      -- the reader's entry k is the k-th that the merge lists
      paired_of : (r : Reference) (k : ℕ) (d : RelocationEntry) → k < length entries → Carries t r (get_or entries k d) → Paired O r t k
      paired_of r k d l c =
          let e : relocation o O t k ≡ get_or entries k d = relocation_merged o C A P B path flag mode clear unclashed t h y k d l in
          record {
            owed = c.owed;
            there = h;
            table = y;
            compiled = λ s. let q = c.compiled s in (q.0, e ∙ q.1);
            assembled = λ s. let q = c.assembled s in (q.0, q.1, q.2, q.3, e ∙ q.4);
          }

      entries_long : length (entries_at o O t) ≡ length entries
      unfolding entries_at
      entries_long = select_all_length (λ k. row_at k) (relocation_count o O t) ∙ relocation_count_merged o C A P B path flag mode clear unclashed t h y

      entry_at : (k : ℕ) (e : Reference) → k < length entries → get_or (entries_at o O t) k e ≡ row_at k
      unfolding entries_at
      entry_at k e l =
          select_all_at (λ j. row_at j) k (relocation_count o O t) e (omega (arith, l, relocation_count_merged o C A P B path flag mode clear unclashed t h y))

      beside_row : (r s : Reference) (k : ℕ) → s ≡ row_at k → Paired O r t k → Beside O r s
      beside_row r s k e q = rw (ap (λ (x : Reference). x.table) e, ap (λ (x : Reference). x.entry) e) q

      entries_matched : Matched (Beside O) (origins_at o C A P B flag t) (entries_at o O t)
      entries_matched =
          let m = origins_matched t y in
          record {
            long = m.long ∙ sym entries_long;
            pairs = λ j d e l.
                let u : j < length entries = omega (arith, l, m.long) in
                let r : Reference = get_or (origins_at o C A P B flag t) j d in
                beside_row r (get_or (entries_at o O t) j e) j (entry_at j e u) (paired_of r j (blank_entry true) u (m.pairs j d (blank_entry true) l));
          }

    -- table by table
    all_matched : Matched (Beside O) (origins o C A P B flag) (all_entries o O)
    unfolding all_entries
    all_matched =
        rw (origins_tables unclashed, merged_count_lem o C A P B path flag mode clear)
        (matched_gather (Beside O) planned (is_table o O) (origins_at o C A P B flag) (entries_at o O) many
        (λ t h. sym (table_merged o C A P B path flag mode clear t h))
        (λ t h y. entries_matched t h y))

-- ---- of an accepted merge

module _ (C A B path : List ℕ) (flag mode : ℕ) (O : List ℕ) (p : MergePassed C A B path flag mode O) where
  abbrev o : ByteOrder
  o = order_of C

  abbrev P : List Place
  P = places_of (order_of C) C B

  abbrev owed : List Reference
  owed = origins (order_of C) C A (places_of (order_of C) C B) B flag

  abbrev found : List Reference
  found = all_entries (order_of C) O

  matched : Matched (Beside o C A P B path flag mode O) owed found
  matched = rw (← p.object) at (all_matched o C A P B path flag mode p.movable p.unclashed)

  -- the entries of the result are as many as are owed
  pub many_found : length found ≡ length owed
  many_found = sym matched.long

  -- and each is the reference of its number
  pub paired : (j : ℕ) → j < length owed → Paired o C A P B path flag mode O (reference_at owed j) (reference_at found j).table (reference_at found j).entry
  unfolding reference_at
  paired j h = matched.pairs j no_reference no_reference h
