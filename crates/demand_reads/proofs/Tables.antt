-- The relocation tables of the merged object are as document 01 has them (refusal 6): entries of their type's size, for a section that stays, and for the symbol table. Assumes
-- nothing.
use Rattle.std.specs.Prelude.{None}
use Prim.Native.Nat.{ℕ, ◌+◌, ◌-◌, ◌<◌}
use mathlib.Core.Path.{◌≡◌, sym, ap, ◌∙◌}
use mathlib.Core.Logic.{◌≢◌, ⊎_elim}
use mathlib.Core.Bool.{true, false}
use mathlib.Core.List.{List}
use native.Mathlib.Omega.{arith}
use borrow.Author.Tests.{lt-ltb, eq-eqb}
use Rattle.base_lists.proofs.Ranges.{by-test, by-lt, and_true}
use Rattle.base_fields.specs.declared.ByteOrder.{ByteOrder}
use Rattle.base_scope.specs.Elf.{SHT_SYMTAB}
use Rattle.base_scope.specs.Codes.{target_code}
use Rattle.elf_records.specs.declared.section.SectionHeader.{SectionHeader}
use Rattle.elf_readers.specs.Readers.{section_count, section, coded_section}
use Rattle.elf_readers.proofs.Readers.{code_there}
use Rattle.elf_symbols.specs.Symbols.{symtab}
use Rattle.elf_relocations.specs.Relocations.{is_table, entry_size, relocation_table_sound, bad_table, relocation_fault}
use Rattle.elf_relocations.proofs.Relocations.{bad_table_lem, bad_none}
use Rattle.elf_check.specs.Sound.{Sound}
use Rattle.blocks_places.specs.Places.{Place}
use Rattle.merge_missing.specs.Complete.{Complete}
use Rattle.merge_kept.specs.Kept.{kept}
use Rattle.merge_kept.proofs.Kept.{kept_le}
use Rattle.carry_clash.specs.Clash.{carried_code, clash_finding}
use Rattle.carry_homes.specs.Homes.{carried_count, carried_table, new_count, opened_by}
use Rattle.carry_homes.proofs.Tables.{code_first, code_last, carried_is}
use Rattle.carry_homes.proofs.Joins.{goal_lines, opened_lt}
use Rattle.write_object.specs.Object.{moved_finding}
use Rattle.write_object.specs.Steps.{heading_with}
use Rattle.demand_symbols.specs.of_write_plan.Plan.{is_planned_table, kept_heading, new_heading, merged_plan, merged_object}
use Rattle.demand_symbols.proofs.of_write_plan.Sections.{table_typed, symtab_not, planned_kept}
use Rattle.demand_symbols.proofs.of_write_plan.Headers.{merged_count_lem, kept_header, new_header}
use Rattle.demand_symbols.proofs.of_write_plan.Relocations.{table_merged, table_entsize_merged, table_link_merged}
use Rattle.demand_reads.proofs.Names.{all_clear}
use Rattle.demand_reads.proofs.Few.{carried_holds}
use Rattle.demand_reads.proofs.Clash.{coded_stays, info_stays}

-- A's section that a carried table is for holds bytes, so C has the section that they go into, and it stays
module _ (o : ByteOrder) (C A : List ℕ) (P : List Place) (B : List ℕ) (flag : ℕ) (sound : Sound o C) (complete : Complete o C A P B) where
  pub goal_stays : (j : ℕ) → j < carried_count o A → coded_section o C (target_code (carried_code o A (carried_table o A j))) < kept o C flag
  goal_stays j h =
      let t : ℕ = carried_table o A j in
      let e = carried_is o A j h in
      let g = goal_lines o A j h in
      let c : coded_section o C (target_code (carried_code o A t)) < section_count o C
      = code_there o C _ (complete.targets (carried_code o A t) (code_first o A t) (code_last o A t e) (carried_holds o A t e)) in
      coded_stays o C flag (target_code (carried_code o A t)) sound g.0 (omega (arith, g.1)) c

module _ (o : ByteOrder) (C A : List ℕ) (P : List Place) (B path : List ℕ) (flag mode : ℕ) where
  abbrev O : List ℕ
  O = merged_object o C A P B path flag mode

  abbrev stay : ℕ
  stay = kept o C flag

  abbrev new : ℕ
  new = new_count o C A (kept o C flag)

  abbrev planned : ℕ → Type 0
  planned i = is_planned_table o C A P B path flag mode i ≡ true

  module _ (clear : moved_finding (merged_plan o C A P B path flag mode) o ≡ None) (sound : Sound o C) (unclashed : clash_finding o C A flag ≡ None)
      (complete : Complete o C A P B) where
    -- ---- the section that a table is for

    -- C's keep it
    kept_info : (i : ℕ) → i < stay → is_table o C i ≡ true → (section o O i).sh_info ≡ (section o C i).sh_info
    unfolding heading_with kept_heading
    kept_info i h t =
        let n : (section o C i).sh_type ≢ SHT_SYMTAB = λ q. ⊎_elim (λ e. omega (arith, e, q)) (λ e. omega (arith, e, q)) (table_typed o C i t) in
        ap (λ (x : SectionHeader). x.sh_info) (kept_header o C A P B path flag mode clear i h)
        ∙ rw (symtab_not o C i sound n)

    -- a new one has that of the table that opens it
    new_info : (i : ℕ) → i < new → (section o O (stay + i)).sh_info ≡ coded_section o C (target_code (carried_code o A (carried_table o A (opened_by o C A stay i))))
    unfolding heading_with new_heading
    new_info i h = ap (λ (x : SectionHeader). x.sh_info) (new_header o C A P B path flag mode clear i h)

    -- either stays
    pub info_there : (i : ℕ) → i < stay + new → planned i → (section o O i).sh_info < stay
    info_there i h t = by-lt i stay
        (λ l.
        let is : is_table o C i ≡ true = sym (planned_kept o C A P B path flag mode i l) ∙ t in
        rw (kept_info i l is) (info_stays o C A flag unclashed i (omega (arith, l, kept_le o C flag)) is))
        (λ l.
        let q : i ≡ stay + (i - stay) = omega (arith, l) in
        let n : i - stay < new = omega (arith, l, h) in
        let e = ap (λ (x : ℕ). (section o O x).sh_info) q ∙ new_info (i - stay) n in
        rw e (goal_stays o C A P B flag sound complete (opened_by o C A stay (i - stay)) (opened_lt o C A stay (i - stay) n)))

    -- ---- all of it

    table_sound : (i : ℕ) → i < stay + new → planned i → relocation_table_sound o O i ≡ true
    unfolding relocation_table_sound
    table_sound i h t =
        let u : (section o O i).sh_info < section_count o O = omega (arith, info_there i h t, merged_count_lem o C A P B path flag mode clear) in
        and_true _ _ (eq-eqb (section o O i).sh_entsize (entry_size o O i) (table_entsize_merged o C A P B path flag mode clear sound i h t))
        (and_true _ _ (lt-ltb (section o O i).sh_info (section_count o O) u)
        (eq-eqb (section o O i).sh_link (symtab o O) (table_link_merged o C A P B path flag mode clear sound i h t sound.names)))

    none_bad : (i : ℕ) → i < section_count o O → bad_table o O i ≡ false
    none_bad i h =
        let u : i < stay + new = rw (merged_count_lem o C A P B path flag mode clear) at h in
        let e = table_merged o C A P B path flag mode clear i u in
        by-test (is_planned_table o C A P B path flag mode i)
        (λ t. sym (bad_table_lem o O i true (e ∙ t) (sym (table_sound i u t))))
        (λ f. sym (bad_none o O i (e ∙ f)))

    -- refusal 6 does not hold
    pub tables_clear : relocation_fault o O ≡ None
    unfolding relocation_fault
    tables_clear = all_clear (bad_table o O) (section_count o O) none_bad
