-- The symbol table of the merged object, read by the gABI's readers: it is C's section of that type, its entries are those of the result, its sh_info is the number of local
-- ones, and its string table is C's, with the result's strings. Assumes nothing.
use Rattle.std.specs.Prelude.{None}
use Prim.Native.Nat.{ℕ, ◌<◌}
use mathlib.Core.Path.{◌≡◌, refl, ap, ◌∙◌}
use mathlib.Core.Bool.{Bool, true, false}
use mathlib.Core.List.{List, ◌++◌}
use native.Mathlib.Omega.{arith}
use lib.ListN.{length}
use lib.Dec.{eqb}
use borrow.Author.Tests.{eq-eqb}
use Rattle.base_lists.specs.Ranges.{IsFirst, gather}
use Rattle.base_lists.specs.Strings.{name_at, has_end}
use Rattle.base_lists.proofs.Ranges.{first_is, first_unique}
use Rattle.base_lists.proofs.Strings.{name_append}
use Rattle.base_fields.specs.declared.ByteOrder.{ByteOrder}
use Rattle.base_scope.specs.Elf.{SHT_SYMTAB, SHT_STRTAB}
use Rattle.elf_records.specs.declared.section.SectionHeader.{SectionHeader}
use Rattle.elf_records.specs.declared.symbol.SymbolEntry.{SymbolEntry}
use Rattle.elf_records.specs.Symbol.{symbol_bytes}
use Rattle.elf_readers.specs.Readers.{header, section_count, section, contents, is_strtab}
use Rattle.elf_symbols.specs.Symbols.{is_symtab, symtab, symbol_count, symbol, strtab, symbol_strings, symbol_name}
use Rattle.elf_symbols.proofs.Symbols.{symtab_type}
use Rattle.elf_check.specs.Sound.{Sound}
use Rattle.blocks_places.specs.Places.{Place}
use Rattle.statics_table.specs.declared.Static.{Static}
use Rattle.statics_table.specs.Statics.{name_head}
use Rattle.statics_walk.specs.Walk.{statics}
use Rattle.merge_kept.specs.Kept.{kept}
use Rattle.merge_kept.proofs.Kept.{symtab_kept, strings_kept}
use Rattle.symbols_merge.specs.Merged.{merged_count, local_count}
use Rattle.carry_entries.specs.of_symbols_ids.Ids.{merge_candidates}
use Rattle.carry_entries.specs.of_symbols_ids.Table.{result_entry, result_symbols}
use Rattle.write_strings.specs.Strings.{result_strings}
use Rattle.write_object.specs.Object.{Plan, has_place, written_offset, written_size, written_content, moved_finding}
use Rattle.write_object.specs.Steps.{heading_with}
use Rattle.write_object.proofs.Own.{own_ident}
use Rattle.write_object.proofs.Tables.{symtab_back, symbol_count_back, symbol_back}
use Rattle.write_plan.specs.Plan.{added_names, kept_heading, merged_plan, merged_object}
use Rattle.write_plan.proofs.Sections.{strtab_type, symbols_bytes, strings_bytes}
use Rattle.write_plan.proofs.Headers.{many_is, type_kept, placed_typed, content_still, kept_header, merged_contents}

module _ (o : ByteOrder) (C A : List ℕ) (P : List Place) (B path : List ℕ) (flag mode : ℕ) where
  abbrev p : Plan
  p = merged_plan o C A P B path flag mode

  abbrev O : List ℕ
  O = merged_object o C A P B path flag mode

  abbrev S : List Static
  S = statics o C mode (length (name_head mode path))

  abbrev many : ℕ
  many = merged_count (merge_candidates o C A P B mode (length (name_head mode path)))

  module _ (clear : moved_finding p o ≡ None) (sound : Sound o C) (names : is_strtab o C (header o C).e_shstrndx ≡ true) where
    abbrev t : ℕ
    t = symtab o C

    there : t < kept o C flag
    there = symtab_kept o C flag sound.tabled

    below : t < p.many
    below = rw (many_is o C A P B path flag mode) (omega (arith, there))

    planned_type : (p.heading t).sh_type ≡ SHT_SYMTAB
    planned_type = type_kept o C A P B path flag mode t there ∙ symtab_type o C sound.tabled.table

    -- ---- which section it is

    abbrev is_planned : ℕ → Bool
    is_planned i = eqb (p.heading i).sh_type SHT_SYMTAB

    planned_before : (i : ℕ) → i < t → is_planned i ≡ false
    unfolding symtab is_symtab
    planned_before i h =
        let k : i < kept o C flag = omega (arith, h, there) in
        ap (λ (x : ℕ). eqb x SHT_SYMTAB) (type_kept o C A P B path flag mode i k)
        ∙ (first_is (is_symtab o C) 0 (section_count o C) (omega arith)).below i (omega arith) h

    planned_first : IsFirst is_planned 0 p.many t
    planned_first = record {
      low = omega arith;
      high = omega (arith, below);
      below = λ i l h. planned_before i h;
      here = λ h. eq-eqb (p.heading t).sh_type SHT_SYMTAB planned_type;
    }

    pub symtab_merged : symtab o O ≡ symtab o C
    unfolding merged_object
    symtab_merged =
        symtab_back p o (header o C) (own_ident o C) clear
        ∙ first_unique is_planned 0 p.many _ t (first_is is_planned 0 p.many (omega arith)) planned_first

    -- ---- its entries

    placed : has_place (p.heading t) ≡ true
    placed = placed_typed o C A P B path flag mode t (λ q. omega (arith, planned_type, q)) (λ q. omega (arith, planned_type, q))

    abbrev entry : ℕ → SymbolEntry
    entry = result_entry o C A P B mode S

    content_is : written_content p o t ≡ gather (λ k. true) (λ k. symbol_bytes o (entry k)) many
    unfolding result_symbols merge_candidates
    content_is = content_still o C A P B path flag mode t (λ q. omega (arith, planned_type, q)) ∙ symbols_bytes o C A P B path flag mode sound names

    pub symbol_count_merged : symbol_count o O ≡ many
    unfolding merged_object
    symbol_count_merged = symbol_count_back p o (header o C) (own_ident o C) clear t below placed many symtab_merged entry content_is

    pub symbol_merged : (k : ℕ) → k < many → symbol o O k ≡ entry k
    unfolding merged_object
    symbol_merged k h = symbol_back p o (header o C) (own_ident o C) clear t below placed many symtab_merged entry content_is k h

    -- ---- its header

    header_is : section o O (symtab o O) ≡ heading_with (kept_heading o C A P B path flag mode t) (written_offset p t) (written_size p t)
    header_is = ap (section o O) symtab_merged ∙ kept_header o C A P B path flag mode clear t there

    -- sh_info is one more than the last local entry's index
    pub symbol_info_merged : (section o O (symtab o O)).sh_info ≡ local_count (merge_candidates o C A P B mode (length (name_head mode path)))
    unfolding heading_with kept_heading
    symbol_info_merged = ap (λ (x : SectionHeader). x.sh_info) header_is ∙ rw (eq-eqb t t refl)

    pub strtab_merged : strtab o O ≡ strtab o C
    unfolding strtab heading_with kept_heading
    strtab_merged = ap (λ (x : SectionHeader). x.sh_link) header_is

    -- ---- its strings

    strings_type : (p.heading (strtab o C)).sh_type ≡ SHT_STRTAB
    strings_type = type_kept o C A P B path flag mode (strtab o C) (strings_kept o C flag (strtab o C) sound.strings) ∙ strtab_type o C (strtab o C) sound.strings

    pub symbol_strings_merged : symbol_strings o O ≡ result_strings o C A mode path S ++ added_names o C A P B path flag mode (strtab o C)
    unfolding symbol_strings
    symbol_strings_merged =
        let i : ℕ = strtab o C in
        ap (contents o O) strtab_merged
        ∙ merged_contents o C A P B path flag mode clear i (omega (arith, strings_kept o C flag i sound.strings))
        (λ q. omega (arith, strings_type, q)) (λ q. omega (arith, strings_type, q)) (λ q. omega (arith, strings_type, q))
        ∙ strings_bytes o C A P B path flag mode sound names

    -- a symbol's name is the one that the result's strings have there
    pub symbol_name_merged : (k : ℕ) → k < many → has_end (result_strings o C A mode path S) (entry k).st_name ≡ true
        → symbol_name o O k ≡ name_at (result_strings o C A mode path S) (entry k).st_name
    unfolding symbol_name
    symbol_name_merged k h e =
        let x : ℕ = (entry k).st_name in
        ap (λ (l : List ℕ). name_at l (symbol o O k).st_name) symbol_strings_merged
        ∙ ap (λ (y : SymbolEntry). name_at (result_strings o C A mode path S ++ added_names o C A P B path flag mode (strtab o C)) y.st_name) (symbol_merged k h)
        ∙ name_append (result_strings o C A mode path S) (added_names o C A P B path flag mode (strtab o C)) x e
