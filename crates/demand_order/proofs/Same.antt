-- A reference beside the entry of the result that carries it: the entry's table has the type and the target of the reference's and the link to the symbol table, and the entry
-- stands at the reference's place, which it has, with its kind and its addend. Assumes nothing.
use Prim.Native.Nat.{ℕ, ◌<◌}
use mathlib.Core.Path.{◌≡◌, sym, ap, ◌∙◌}
use mathlib.Core.Logic.{◌≢◌}
use mathlib.Core.Bool.{true, false}
use mathlib.Core.List.{List}
use native.Mathlib.Omega.{arith}
use lib.ListN.{length, get_or}
use lib.Dec.{eqb}
use Rattle.base_lists.proofs.Ranges.{by-test, both}
use Rattle.base_packed.specs.Packed.{kind_of}
use Rattle.base_fields.specs.declared.ByteOrder.{ByteOrder}
use Rattle.base_scope.specs.Elf.{SHT_SYMTAB}
use Rattle.base_scope.specs.Codes.{LATE_RODATA, target_code}
use Rattle.elf_records.specs.declared.section.SectionHeader.{SectionHeader}
use Rattle.elf_records.specs.declared.relocation.RelocationEntry.{RelocationEntry}
use Rattle.elf_readers.specs.Readers.{order_of, section, coded_section}
use Rattle.elf_symbols.specs.Symbols.{symtab}
use Rattle.elf_relocations.specs.Relocations.{is_table, relocation}
use Rattle.elf_check.specs.Sound.{Sound}
use Rattle.blocks_places.specs.Places.{Place, places_of}
use Rattle.statics_table.specs.Statics.{name_head}
use Rattle.merge_kept.specs.Kept.{kept}
use Rattle.merge_kept.proofs.Kept.{table_kept}
use Rattle.symbols_taken.specs.Used.{code_of}
use Rattle.carry_clash.specs.Clash.{carried_code}
use Rattle.demand_clauses.specs.of_carry_entries.Entries.{Carrying, is_stuck, goal_place, entry_goal, carried_entry}
use Rattle.demand_clauses.specs.of_carry_entries.Carried.{carrying_c, carrying_a}
use Rattle.carry_homes.specs.Homes.{carried_count, carried_table, home_of}
use Rattle.write_object.specs.Object.{Plan, written_offset, written_size}
use Rattle.write_object.specs.Steps.{heading_with}
use Rattle.merge_verdict.specs.of_write_plan.Plan.{kept_heading, merged_plan}
use Rattle.merge_verdict.proofs.of_write_plan.Sections.{table_not, symtab_not}
use Rattle.merge_verdict.proofs.of_write_plan.Headers.{heading_kept, type_kept as type-planned, merged_header}
use Rattle.merge_verdict.proofs.of_write_plan.Entries.{home_type}
use Rattle.merge_verdict.proofs.of_write_plan.Relocations.{home_info, table_link_merged}
use Rattle.merge_verdict.specs.Verdict.{MergePassed}
use Rattle.demand_clauses.specs.Reading.{Reference, reference_kind}
use Rattle.demand_clauses.specs.TakenOver.{is_compiled, object_of, target_of, has_offset, new_offset}
use Rattle.demand_clauses.proofs.Owed.{OwedC, OwedA, owed_compiled, owed_assembled}
use Rattle.demand_order.proofs.Goals.{kept_a, place_stays, place_still, late_moved, place_late}
use Rattle.demand_order.proofs.Lost.{none_lost_a}
use Rattle.demand_clauses.proofs.References.{object_c, target_c, moved_c, place_c_lem, object_a, target_a, moved_a, place_a_lem}
use Rattle.demand_order.proofs.Carried.{carried_offset, carried_addend, carried_kind}
use Rattle.demand_order.proofs.Pairs.{Paired, table_some}

module _ (C A B path : List ℕ) (flag mode : ℕ) (O : List ℕ) (p : MergePassed C A B path flag mode O) where
  abbrev o : ByteOrder
  o = order_of C

  abbrev P : List Place
  P = places_of (order_of C) C B

  abbrev plan : Plan
  plan = merged_plan (order_of C) C A (places_of (order_of C) C B) B path flag mode

  abbrev head : ℕ
  head = length (name_head mode path)

  abbrev w_c : Carrying
  w_c = carrying_c (order_of C) C A (places_of (order_of C) C B) B mode (length (name_head mode path))

  abbrev w_a : Carrying
  w_a = carrying_a (order_of C) C A (places_of (order_of C) C B) B mode (length (name_head mode path))

  sound_c : Sound o C
  sound_c = p.inputs.opened.sound

  module _ (r : Reference) (t k : ℕ) (q : Paired o C A P B path flag mode O r t k) where
    abbrev file : List ℕ
    file = object_of o C A P B r

    -- its table's header is as planned
    heading_is : section o O t ≡ heading_with (plan.heading t) (written_offset plan t) (written_size plan t)
    heading_is = rw (← p.object) at (merged_header o C A P B path flag mode p.movable t q.there)

    type_is : (section o O t).sh_type ≡ (plan.heading t).sh_type
    unfolding heading_with
    type_is = ap (λ (x : SectionHeader). x.sh_type) heading_is

    info_is : (section o O t).sh_info ≡ (plan.heading t).sh_info
    unfolding heading_with
    info_is = ap (λ (x : SectionHeader). x.sh_info) heading_is

    -- ---- C's

    module _ (y : is_compiled o C A P B r ≡ true) where
      owed_here : OwedC o C A P B r.table r.entry
      owed_here = owed_compiled o C A P B r q.owed y

      table_is : t ≡ r.table
      table_is = (q.compiled y).0

      entry_is : relocation o O t k ≡ carried_entry o C w_c r.table r.entry
      entry_is = (q.compiled y).1

      -- its table stays, and is not the symbol table
      table_stays : t < kept o C flag
      table_stays = omega (arith, table_is, table_kept o C flag r.table owed_here.below owed_here.table)

      type_c : (section o O t).sh_type ≡ (section o C r.table).sh_type
      type_c = type_is ∙ type-planned o C A P B path flag mode t table_stays ∙ ap (λ (x : ℕ). (section o C x).sh_type) table_is

      not_symbols_lem : (section o C t).sh_type ≢ SHT_SYMTAB
      not_symbols_lem e =
          both (ap (is_table o C) table_is ∙ owed_here.table)
          (table_not o C t (λ g. omega (arith, e, g)) (λ g. omega (arith, e, g)))

      info_c : (section o O t).sh_info ≡ (section o C r.table).sh_info
      unfolding kept_heading
      info_c =
          info_is
          ∙ ap (λ (x : SectionHeader). x.sh_info) (heading_kept o C A P B path flag mode t table_stays)
          ∙ rw (symtab_not o C t sound_c not_symbols_lem) (ap (λ (x : ℕ). (section o C x).sh_info) table_is)

      stands_c : (relocation o O t k).r_offset ≡ (relocation o C r.table r.entry).r_offset
      stands_c =
          ap (λ (x : RelocationEntry). x.r_offset) entry_is
          ∙ carried_offset o C w_c r.table r.entry
          ∙ place_stays o C A P B mode head r.table r.entry owed_here.stays

    -- ---- A's

    module _ (f : is_compiled o C A P B r ≡ false) where
      owed_there : OwedA o C A P B r.table r.entry
      owed_there = owed_assembled o C A P B r q.owed f

      carried_at : relocation o O t k ≡ carried_entry o A w_a r.table r.entry
      carried_at = (q.assembled f).4

      module _ (i : ℕ) (h : i < carried_count o A) (e : carried_table o A i ≡ r.table) (at : home_of o C A (kept o C flag) i ≡ t) where
        some : 0 < (section o A (carried_table o A i)).sh_size
        some = omega (arith, ap (λ (x : ℕ). (section o A x).sh_size) e, table_some o A r.table r.entry owed_there.entry)

        home_typed : (plan.heading t).sh_type ≡ (section o A r.table).sh_type
        home_typed =
            ap (λ (x : ℕ). (plan.heading x).sh_type) (sym at)
            ∙ home_type o C A P B path flag mode p.unclashed i h some
            ∙ ap (λ (x : ℕ). (section o A x).sh_type) e

        home_aimed : (plan.heading t).sh_info ≡ coded_section o C (target_code (code_of o A (section o A r.table).sh_info))
        unfolding carried_code
        home_aimed =
            ap (λ (x : ℕ). (plan.heading x).sh_info) (sym at)
            ∙ home_info o C A P B path flag mode p.unclashed i h some sound_c
            ∙ ap (λ (x : ℕ). coded_section o C (target_code (code_of o A (section o A x).sh_info))) e

      type_a_lem : (section o O t).sh_type ≡ (section o A r.table).sh_type
      type_a_lem = let s = q.assembled f in type_is ∙ home_typed s.0 s.1 s.2 s.3

      info_a : (section o O t).sh_info ≡ coded_section o C (target_code (code_of o A (section o A r.table).sh_info))
      info_a = let s = q.assembled f in info_is ∙ home_aimed s.0 s.1 s.2 s.3

      stands_a : (relocation o O t k).r_offset ≡ goal_place (entry_goal o A w_a r.table r.entry)
      stands_a = ap (λ (x : RelocationEntry). x.r_offset) carried_at ∙ carried_offset o A w_a r.table r.entry

    -- ---- of either

    pub type_kept : (section o O t).sh_type ≡ (section o file r.table).sh_type
    type_kept = by-test (is_compiled o C A P B r)
        (λ y. type_c y ∙ ap (λ (x : List ℕ). (section o x r.table).sh_type) (sym (object_c o C A P B r y)))
        (λ f. type_a_lem f ∙ ap (λ (x : List ℕ). (section o x r.table).sh_type) (sym (object_a o C A P B r f)))

    pub link_kept : (section o O t).sh_link ≡ symtab o O
    link_kept = rw (← p.object) at (table_link_merged o C A P B path flag mode p.movable sound_c t q.there q.table sound_c.names)

    pub target_kept : (section o O t).sh_info ≡ target_of o C A P B r
    target_kept = by-test (is_compiled o C A P B r)
        (λ y. info_c y ∙ sym (target_c o C A P B r y))
        (λ f. info_a f ∙ sym (target_a o C A P B r f))

    pub kind_kept : reference_kind o O t k ≡ reference_kind o file r.table r.entry
    unfolding reference_kind
    kind_kept = by-test (is_compiled o C A P B r)
        (λ y.
        ap (λ (x : RelocationEntry). kind_of x.r_info) (entry_is y)
        ∙ carried_kind o C w_c r.table r.entry
        ∙ ap (λ (x : List ℕ). kind_of (relocation o x r.table r.entry).r_info) (sym (object_c o C A P B r y)))
        (λ f.
        ap (λ (x : RelocationEntry). kind_of x.r_info) (carried_at f)
        ∙ carried_kind o A w_a r.table r.entry
        ∙ ap (λ (x : List ℕ). kind_of (relocation o x r.table r.entry).r_info) (sym (object_a o C A P B r f)))

    pub addend_kept : (relocation o O t k).r_addend ≡ (relocation o file r.table r.entry).r_addend
    addend_kept = by-test (is_compiled o C A P B r)
        (λ y.
        ap (λ (x : RelocationEntry). x.r_addend) (entry_is y)
        ∙ carried_addend o C w_c r.table r.entry
        ∙ ap (λ (x : List ℕ). (relocation o x r.table r.entry).r_addend) (sym (object_c o C A P B r y)))
        (λ f.
        ap (λ (x : RelocationEntry). x.r_addend) (carried_at f)
        ∙ carried_addend o A w_a r.table r.entry
        ∙ ap (λ (x : List ℕ). (relocation o x r.table r.entry).r_addend) (sym (object_a o C A P B r f)))

    -- ---- places: 20 says that a late offset is moved

    module _ (bytes : (i : ℕ) → get_or A i 0 < 256) where
      unstuck : is_compiled o C A P B r ≡ false → is_stuck (entry_goal o A w_a r.table r.entry) ≡ false
      unstuck f =
          let w = owed_there f in
          (none_lost_a C A B path flag mode O p bytes r.table r.entry w.below w.table w.entry (kept_a o C A P B mode head r.table r.entry)).0

      pub moved_kept : has_offset o C A P B r ≡ true
      moved_kept = by-test (is_compiled o C A P B r)
          (λ y. moved_c o C A P B r y)
          (λ f. moved_a o C A P B r f ∙ by-test (eqb (code_of o A (section o A r.table).sh_info) LATE_RODATA)
          (λ l. rw l (late_moved o C A P B mode head r.table r.entry l (unstuck f)))
          (λ l. rw l))

      pub place_kept : (relocation o O t k).r_offset ≡ new_offset o C A P B r
      place_kept = by-test (is_compiled o C A P B r)
          (λ y. stands_c y ∙ sym (place_c_lem o C A P B r y))
          (λ f. stands_a f ∙ by-test (eqb (code_of o A (section o A r.table).sh_info) LATE_RODATA)
          (λ l.
          place_late o C A P B mode head r.table r.entry l (late_moved o C A P B mode head r.table r.entry l (unstuck f))
          ∙ sym (place_a_lem o C A P B r f ∙ rw l))
          (λ l. place_still o C A P B mode head r.table r.entry l ∙ sym (place_a_lem o C A P B r f ∙ rw l)))
