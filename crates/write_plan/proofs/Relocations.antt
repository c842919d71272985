-- The relocation tables of the merged object, read by the gABI's readers: which sections are tables, and that a table's entries are C's kept ones, then those of the carried
-- tables that join it; and each carried table with entries joins a table of its type for the section that its bytes go into. Assumes nothing.
use Rattle.std.specs.Prelude.{None}
use Prim.Native.Nat.{ℕ, zero, suc, ◌+◌, ◌-◌, ◌≤◌, ◌<◌}
use mathlib.Core.Path.{◌≡◌, refl, sym, ap, ◌∙◌}
use mathlib.Core.Logic.{◌≢◌, ◌⊎◌, inl, inr}
use mathlib.Core.Bool.{Bool, true, ◌||◌}
use mathlib.Core.List.{List, [], ◌∷◌}
use native.Mathlib.Omega.{arith}
use lib.ListN.{length, get_or}
use lib.Dec.{eqb, ltb}
use borrow.Author.Tests.{eqb-true}
use Rattle.base_lists.specs.Ranges.{gather}
use Rattle.base_lists.proofs.Ranges.{by-test, by-lt, and_parts}
use Rattle.base_fields.specs.declared.ByteOrder.{ByteOrder}
use Rattle.base_fields.specs.Layouts.{width_of}
use Rattle.base_scope.specs.Elf.{SHT_SYMTAB, SHT_RELA, SHT_REL}
use Rattle.base_scope.specs.Codes.{target_code}
use Rattle.elf_records.specs.declared.section.SectionHeader.{SectionHeader}
use Rattle.elf_records.specs.declared.relocation.RelocationEntry.{RelocationEntry}
use Rattle.elf_records.specs.Relocation.{relocation_layout, relocation_bytes}
use Rattle.elf_readers.specs.Readers.{header, section_count, section, is_strtab, coded_section, coded_contents}
use Rattle.elf_symbols.specs.Symbols.{symtab}
use Rattle.elf_relocations.specs.Relocations.{is_rela, is_table, entry_size, relocation_table_sound, relocation_count, relocation}
use Rattle.elf_check.specs.Sound.{Sound}
use Rattle.blocks_places.specs.Places.{Place}
use Rattle.merge_kept.specs.Kept.{kept}
use Rattle.merge_kept.proofs.Kept.{kept_le}
use Rattle.carry_entries.specs.of_symbols_taken.Used.{is_source_table}
use Rattle.carry_entries.proofs.of_symbols_taken.Sections.{table_kind}
use Rattle.carry_entries.specs.of_carry_clash.Clash.{carried_code, is_carried, clash_finding}
use Rattle.carry_homes.specs.Homes.{carried_count, carried_table, has_home, new_count, opened_by, home_of}
use Rattle.carry_homes.proofs.Tables.{carried_lt, carried_is}
use Rattle.carry_homes.proofs.Joins.{home_there, home_new, there_lt, home_kind, home_lt, new_kind, opened_lt}
use Rattle.write_object.specs.Object.{Plan, has_place, written_content, moved_finding}
use Rattle.write_object.specs.Steps.{heading_with}
use Rattle.write_object.proofs.Own.{own_ident}
use Rattle.write_object.proofs.ReadBack.{type_back}
use Rattle.write_object.proofs.Tables.{relocation_back, relocation_count_back}
use Rattle.write_plan.specs.Plan.{is_planned_table, kept_heading, new_heading, merged_plan, merged_object}
use Rattle.write_plan.specs.Tables.{table_entries}
use Rattle.write_plan.proofs.Sections.{table_typed, symtab_not, planned_kept, planned_new, table_holds}
use Rattle.write_plan.proofs.Headers.{many_is, heading_kept, heading_new, type_kept, placed_typed, content_still, merged_header}
use Rattle.write_plan.proofs.Symbols.{symtab_merged}
use Rattle.write_plan.proofs.Entries.{flat_gather, table_entries_lem, blank_entry, Alike, none_misjoined, home_type, table_alike}

-- ---- types of tables

abbrev TableType : ℕ → Type 0
TableType t = (t ≡ SHT_RELA) ⊎ (t ≡ SHT_REL)

table_other : (t c : ℕ) → TableType t → SHT_RELA ≢ c → SHT_REL ≢ c → t ≢ c
table_other t c (inl e) a b q = a (sym e ∙ q)
table_other t c (inr e) a b q = b (sym e ∙ q)

typed_table : (t : ℕ) → TableType t → (eqb t SHT_RELA || eqb t SHT_REL) ≡ true
typed_table t (inl e) = rw e
typed_table t (inr e) = rw e

pub carried_table_lem : (o : ByteOrder) (A : List ℕ) (j : ℕ) → j < carried_count o A → is_table o A (carried_table o A j) ≡ true
unfolding is_carried
carried_table_lem o A j h =
    let t : ℕ = carried_table o A j in
    table_kind o A t (and_parts (is_source_table o A t) (ltb 0 (length (coded_contents o A (carried_code o A t)))) (carried_is o A j h)).0

-- an index inside a list needs no default
default_free : (l : List RelocationEntry) (k : ℕ) (d e : RelocationEntry) → k < length l → get_or l k d ≡ get_or l k e
default_free [] k d e h = absurd (omega (arith, h))
default_free (x ∷ l) zero d e h = refl
default_free (x ∷ l) (suc k) d e h = default_free l k d e (omega (arith, h))

module _ (o : ByteOrder) (C A : List ℕ) (P : List Place) (B path : List ℕ) (flag mode : ℕ) where
  abbrev p : Plan
  p = merged_plan o C A P B path flag mode

  abbrev O : List ℕ
  O = merged_object o C A P B path flag mode

  abbrev stay : ℕ
  stay = kept o C flag

  abbrev many : ℕ
  many = stay + new_count o C A (kept o C flag)

  abbrev planned : ℕ → Bool
  planned = is_planned_table o C A P B path flag mode

  -- ---- which sections are tables

  new_typed : (i : ℕ) → stay ≤ i → i < many → TableType (p.heading i).sh_type
  unfolding new_heading
  new_typed i l h =
      let n : i - stay < new_count o C A stay = omega (arith, h, l) in
      let j : ℕ = opened_by o C A stay (i - stay) in
      let e : i ≡ stay + (i - stay) = omega (arith, l) in
      let q : (p.heading i).sh_type ≡ (section o A (carried_table o A j)).sh_type
      = ap (λ (x : ℕ). (p.heading x).sh_type) e ∙ ap (λ (x : SectionHeader). x.sh_type) (heading_new o C A P B path flag mode (i - stay)) in
      rw q (table_typed o A (carried_table o A j) (carried_table_lem o A j (opened_lt o C A stay (i - stay) n)))

  planned_typed : (i : ℕ) → i < many → planned i ≡ true → TableType (p.heading i).sh_type
  planned_typed i h t = by-lt i stay
      (λ l. rw (type_kept o C A P B path flag mode i l) (table_typed o C i (sym (planned_kept o C A P B path flag mode i l) ∙ t)))
      (λ l. new_typed i l h)

  module _ (clear : moved_finding p o ≡ None) where
    type_merged : (i : ℕ) → i < many → (section o O i).sh_type ≡ (p.heading i).sh_type
    unfolding merged_object
    type_merged i h = type_back p o (header o C) (own_ident o C) clear i (rw (many_is o C A P B path flag mode) h)

    pub table_merged : (i : ℕ) → i < many → is_table o O i ≡ planned i
    unfolding is_table is_rela
    table_merged i h = by-lt i stay
        (λ l.
        ap (λ (x : ℕ). eqb x SHT_RELA || eqb x SHT_REL) (type_merged i h ∙ type_kept o C A P B path flag mode i l)
        ∙ sym (planned_kept o C A P B path flag mode i l))
        (λ l.
        ap (λ (x : ℕ). eqb x SHT_RELA || eqb x SHT_REL) (type_merged i h)
        ∙ typed_table (p.heading i).sh_type (new_typed i l h)
        ∙ sym (planned_new o C A P B path flag mode i l))

    -- ---- their entries

    module _ (unclashed : clash_finding o C A flag ≡ None) (i : ℕ) (h : i < many) (t : planned i ≡ true) where
      abbrev entries : List RelocationEntry
      entries = table_entries o C A P B path flag mode i

      abbrev rela : Bool
      rela = eqb (p.heading i).sh_type SHT_RELA

      below : i < p.many
      below = rw (many_is o C A P B path flag mode) h

      placed : has_place (p.heading i) ≡ true
      placed =
          placed_typed o C A P B path flag mode i
          (table_other _ _ (planned_typed i h t) (omega arith) (omega arith)) (table_other _ _ (planned_typed i h t) (omega arith) (omega arith))

      content_is : written_content p o i ≡ gather (λ k. true) (λ k. relocation_bytes o (get_or entries k (blank_entry rela))) (length entries)
      content_is =
          content_still o C A P B path flag mode i (table_other _ _ (planned_typed i h t) (omega arith) (omega arith))
          ∙ table_holds o C A P B path flag mode i t
          ∙ table_entries_lem o C A P B path flag mode i
          ∙ flat_gather (relocation_bytes o) (blank_entry rela) entries

      alike : Alike rela entries
      alike = table_alike o C A P B path flag mode unclashed i

      pub relocation_count_merged : relocation_count o O i ≡ length entries
      unfolding merged_object
      relocation_count_merged =
          relocation_count_back p o (header o C) (own_ident o C) clear i below placed (length entries) rela refl (λ k. get_or entries k (blank_entry rela)) alike content_is

      pub relocation_merged : (k : ℕ) (d : RelocationEntry) → k < length entries → relocation o O i k ≡ get_or entries k d
      unfolding merged_object
      relocation_merged k d u =
          relocation_back p o (header o C) (own_ident o C) clear i below placed (length entries) rela refl (λ k. get_or entries k (blank_entry rela)) alike content_is k u
          ∙ default_free entries k (blank_entry rela) d u

  -- ---- the tables that join

  -- a carried table with entries joins a table of the result, of its type, for C's section that its bytes go into
  module _ (unclashed : clash_finding o C A flag ≡ None) (j : ℕ) (h : j < carried_count o A) (some : 0 < (section o A (carried_table o A j)).sh_size) where
    abbrev table : ℕ
    table = carried_table o A j

    abbrev home : ℕ
    home = home_of o C A (kept o C flag) j

    pub home_there_merged : home < many
    home_there_merged = home_lt o C A stay j h

    pub home_planned : planned home ≡ true
    unfolding is_table is_rela
    home_planned = by-lt home stay
        (λ l.
        let e : (section o C home).sh_type ≡ (section o A table).sh_type
        = sym (type_kept o C A P B path flag mode home l) ∙ home_type o C A P B path flag mode unclashed j h some in
        planned_kept o C A P B path flag mode home l
        ∙ ap (λ (x : ℕ). eqb x SHT_RELA || eqb x SHT_REL) e
        ∙ carried_table_lem o A j h)
        (λ l. planned_new o C A P B path flag mode home l)

    home_info_kept : Sound o C → has_home o C A stay j ≡ true → (p.heading home).sh_info ≡ coded_section o C (target_code (carried_code o A table))
    unfolding kept_heading
    home_info_kept sound t =
        let l : home < stay = omega (arith, home_there o C A stay j t, there_lt o C A stay j t) in
        let r = home_kind o C A stay j h some (none_misjoined o C A flag unclashed table (carried_lt o A j h)) t in
        let n : (section o C home).sh_type ≢ SHT_SYMTAB
        = table_other _ _ (rw (← r.0) at (table_typed o A table (carried_table_lem o A j h))) (omega arith) (omega arith) in
        ap (λ (x : SectionHeader). x.sh_info) (heading_kept o C A P B path flag mode home l)
        ∙ rw (symtab_not o C home sound n) r.1

    pub home_info : Sound o C → (p.heading home).sh_info ≡ coded_section o C (target_code (carried_code o A table))
    unfolding new_heading
    home_info sound = by-test (has_home o C A stay j)
        (λ t. home_info_kept sound t)
        (λ f.
        let e : home ≡ stay + (home - stay) = omega (arith, home_new o C A stay j f) in
        ap (λ (x : ℕ). (p.heading x).sh_info) e
        ∙ ap (λ (x : SectionHeader). x.sh_info) (heading_new o C A P B path flag mode (home - stay))
        ∙ ap (coded_section o C) (new_kind o C A stay j h f).1)

  -- ---- their headers

  module _ (clear : moved_finding p o ≡ None) (sound : Sound o C) (i : ℕ) (h : i < many) (t : planned i ≡ true) where
    -- entries have the size of the table's type
    planned_entsize : (p.heading i).sh_entsize ≡ width_of (relocation_layout (eqb (p.heading i).sh_type SHT_RELA))
    unfolding kept_heading new_heading entry_size is_rela relocation_table_sound
    planned_entsize = by-lt i stay
        (λ l.
        let is : is_table o C i ≡ true = sym (planned_kept o C A P B path flag mode i l) ∙ t in
        let s = sound.tables i (omega (arith, kept_le o C flag)) is in
        let e = eqb-true (section o C i).sh_entsize (entry_size o C i) (and_parts (eqb (section o C i).sh_entsize (entry_size o C i)) _ s).0 in
        rw (heading_kept o C A P B path flag mode i l) e)
        (λ l.
        let q : i ≡ stay + (i - stay) = omega (arith, l) in
        let f : p.heading i ≡ new_heading o C A P B path flag mode (i - stay)
        = ap (λ (x : ℕ). p.heading x) q ∙ heading_new o C A P B path flag mode (i - stay) in
        rw f)

    planned_link : (p.heading i).sh_link ≡ symtab o C
    unfolding kept_heading new_heading relocation_table_sound
    planned_link = by-lt i stay
        (λ l.
        let is : is_table o C i ≡ true = sym (planned_kept o C A P B path flag mode i l) ∙ t in
        let s = sound.tables i (omega (arith, kept_le o C flag)) is in
        let r = (and_parts (eqb (section o C i).sh_entsize (entry_size o C i)) _ s).1 in
        let e = eqb-true (section o C i).sh_link (symtab o C) (and_parts (ltb (section o C i).sh_info (section_count o C)) _ r).1 in
        rw (heading_kept o C A P B path flag mode i l) e)
        (λ l.
        let q : i ≡ stay + (i - stay) = omega (arith, l) in
        let f : p.heading i ≡ new_heading o C A P B path flag mode (i - stay)
        = ap (λ (x : ℕ). p.heading x) q ∙ heading_new o C A P B path flag mode (i - stay) in
        rw f)

    pub table_entsize_merged : (section o O i).sh_entsize ≡ entry_size o O i
    unfolding heading_with entry_size is_rela
    table_entsize_merged =
        ap (λ (x : SectionHeader). x.sh_entsize) (merged_header o C A P B path flag mode clear i h)
        ∙ planned_entsize
        ∙ ap (λ (x : ℕ). width_of (relocation_layout (eqb x SHT_RELA))) (sym (type_merged clear i h))

    pub table_link_merged : is_strtab o C (header o C).e_shstrndx ≡ true → (section o O i).sh_link ≡ symtab o O
    unfolding heading_with
    table_link_merged names =
        ap (λ (x : SectionHeader). x.sh_link) (merged_header o C A P B path flag mode clear i h)
        ∙ planned_link
        ∙ sym (symtab_merged o C A P B path flag mode clear sound names)
