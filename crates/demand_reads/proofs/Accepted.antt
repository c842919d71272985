-- The object of every accepted merge reads as an object: document 01's checks pass, but for its limits, and it has C's sections that stay and the tables that A's relocations
-- need. Assumes nothing.
use Rattle.std.specs.Prelude.{None}
use Prim.Native.Nat.{ℕ, ◌+◌, ◌≤◌, ◌<◌}
use mathlib.Core.Path.{◌≡◌, refl, sym, ap, ◌∙◌, subst}
use mathlib.Core.Bool.{true, ◌&&◌}
use mathlib.Core.List.{List, ◌++◌}
use native.Mathlib.Omega.{arith}
use lib.ListN.{length, take}
use lib.Dec.{eqb, leb}
use Rattle.base_fields.specs.declared.ByteOrder.{ByteOrder}
use Rattle.base_scope.specs.Text.{text}
use Rattle.base_answers.specs.Verdicts.{Passed}
use Rattle.base_answers.proofs.Verdicts.{also_parts}
use Rattle.elf_readers.specs.Readers.{order_of, section_count, header_place, is_strtab}
use Rattle.elf_header.specs.FileHeader.{header_fault}
use Rattle.elf_symbols.specs.Symbols.{strtab, symbol_count, symbol, symbol_strings, symbol_name}
use Rattle.elf_check.specs.Sound.{Sound}
use Rattle.blocks_places.specs.Places.{Place, places_of}
use Rattle.statics_table.specs.Statics.{MODE_FILENAME, name_head}
use Rattle.merge_missing.specs.Complete.{Complete}
use Rattle.merge_kept.specs.Kept.{kept}
use Rattle.merge_kept.proofs.Kept.{kept_le}
use Rattle.symbols_merge.specs.Listed.{symbols_verdict}
use Rattle.symbols_taken.specs.Passed.{TakenPassed}
use Rattle.symbols_taken.proofs.Passed.{taken_passed}
use Rattle.symbols_ids.specs.Ids.{merge_candidates}
use Rattle.demand_symbols.specs.of_symbols_stage.Verdict.{list_verdict, symbol_stages_verdict}
use Rattle.carry_clash.specs.Clash.{clash_finding}
use Rattle.write_strings.proofs.Names.{Full}
use Rattle.write_object.specs.Object.{Plan, moved_finding}
use Rattle.demand_symbols.specs.of_write_plan.Plan.{merged_plan, merged_object}
use Rattle.demand_symbols.proofs.of_write_plan.Headers.{many_is, merged_count_lem, kept_name, new_name_read}
use Rattle.demand_symbols.proofs.of_write_plan.Symbols.{symtab_merged, strtab_merged, symbol_count_merged}
use Rattle.demand_symbols.specs.of_merge_verdict.Verdict.{MergePassed}
use Rattle.demand_symbols.proofs.of_merge_verdict.Limits.{path_full}
use Rattle.demand_symbols.specs.of_demand_clauses.Demand.{RESULT_SECTIONS, RESULT_SYMBOLS, Reads}
use Rattle.demand_symbols.proofs.Symbols.{pathed_kept}
use Rattle.demand_reads.proofs.Header.{header_sound_lem, headings_end, order_kept}
use Rattle.demand_reads.proofs.Sections.{kept_type, held_inside, home_named}
use Rattle.demand_reads.proofs.Names.{strtab_kept, names_clear}
use Rattle.demand_reads.proofs.Symbols.{entry_width, table_whole, some_entry, symbols_sound}
use Rattle.demand_reads.proofs.Tables.{tables_clear}
use Rattle.demand_reads.proofs.Few.{new_six}
use Rattle.demand_reads.proofs.Loose.{few_symbols_lem}

-- ---- what refusals 15 to 19 leave true

module _ (o : ByteOrder) (C A : List ℕ) (P : List Place) (B : List ℕ) (mode head : ℕ) (passed : symbol_stages_verdict o C A P B mode head ≡ Passed) where
  -- 15 and 16
  pub symbols_taken : TakenPassed o C A P B
  unfolding symbol_stages_verdict
  symbols_taken = taken_passed o C A P B (also_parts _ _ passed).0

  -- 18 and 19
  pub symbols_listed : symbols_verdict (merge_candidates o C A P B mode head) ≡ Passed
  unfolding symbol_stages_verdict list_verdict
  symbols_listed = (also_parts _ _ (also_parts _ _ passed).1).1

-- ---- the object

module _ (o : ByteOrder) (C A : List ℕ) (P : List Place) (B path : List ℕ) (flag mode : ℕ) where
  abbrev p : Plan
  p = merged_plan o C A P B path flag mode

  abbrev O : List ℕ
  O = merged_object o C A P B path flag mode

  module _ (clear : moved_finding p o ≡ None) (sound : Sound o C) where
    merged_order : order_of O ≡ order_of C
    unfolding merged_object
    merged_order = order_kept p o C clear sound.fields

    merged_fields : header_fault o O ≡ None
    unfolding merged_object
    merged_fields = header_sound_lem p o C clear sound.fields

    merged_headings : header_place o O p.many ≡ length O
    unfolding merged_object
    merged_headings = headings_end p o C clear

    headings_inside : header_place o O (section_count o O) ≤ length O
    headings_inside =
        let e : section_count o O ≡ p.many = merged_count_lem o C A P B path flag mode clear ∙ sym (many_is o C A P B path flag mode) in
        rw e (omega (arith, merged_headings))

    -- 128 of C and six tables
    few_sections_lem : Sound o A → section_count o O ≤ RESULT_SECTIONS
    few_sections_lem soundA =
        omega (arith, merged_count_lem o C A P B path flag mode clear, kept_le o C flag, sound.named.headed.few, new_six o A soundA C (kept o C flag))

    merged_strings : is_strtab o O (strtab o O) ≡ true
    merged_strings =
        ap (is_strtab o O) (strtab_merged o C A P B path flag mode clear sound sound.names)
        ∙ strtab_kept o C A P B path flag mode clear sound (strtab o C) sound.strings

    few_entries : Sound o A → symbols_verdict (merge_candidates o C A P B mode (length (name_head mode path))) ≡ Passed → symbol_count o O ≤ RESULT_SYMBOLS
    few_entries soundA passed =
        omega (
          arith,
          symbol_count_merged o C A P B path flag mode clear sound sound.names,
          few_symbols_lem o C A P B mode (length (name_head mode path)) sound soundA passed,
        )

    -- what the tests of a merge leave true is enough
    merged_reads : order_of C ≡ o → Sound o A → Full path → clash_finding o C A flag ≡ None → Complete o C A P B → symbol_stages_verdict o C A P B mode (length (name_head mode path)) ≡ Passed
        → ((k : ℕ) → k < symbol_count o O → (eqb mode MODE_FILENAME && leb (length (symbol_strings o C) + length (symbol_strings o A)) (symbol o O k).st_name) ≡ true
        → take (length path + 1) (symbol_name o O k) ≡ path ++ text ":")
        → Reads o C A P B path flag mode O
    merged_reads stated soundA full unclashed complete passed pathed =
        let taken = symbols_taken o C A P B mode (length (name_head mode path)) passed in
        let listed = symbols_listed o C A P B mode (length (name_head mode path)) passed in
        record {
          order = merged_order ∙ stated;
          header = merged_fields;
          few_sections = few_sections_lem soundA;
          headers = headings_inside;
          held = held_inside o C A P B path flag mode clear;
          names = names_clear o C A P B path flag mode clear sound;
          symbol_entry = entry_width o C A P B path flag mode clear sound sound.symbol_entry;
          symbol_whole = table_whole o C A P B path flag mode clear sound;
          strings = merged_strings;
          some_symbols = some_entry o C A P B path flag mode clear sound;
          few_symbols = few_entries soundA listed;
          symbols = symbols_sound o C A P B path flag mode clear sound soundA full unclashed taken;
          tables = tables_clear o C A P B path flag mode clear sound unclashed complete;
          sections = merged_count_lem o C A P B path flag mode clear;
          kept_names = kept_name o C A P B path flag mode clear sound sound.names;
          kept_types = kept_type o C A P B path flag mode clear;
          new_names = new_name_read o C A P B path flag mode clear sound sound.names;
          symbol_table = symtab_merged o C A P B path flag mode clear sound sound.names;
          symbol_strings = strtab_merged o C A P B path flag mode clear sound sound.names;
          joined = home_named o C A P B path flag mode clear sound;
          pathed = pathed;
        }

-- ---- of every accepted merge

module _ (C A B path : List ℕ) (flag mode : ℕ) (O : List ℕ) (p : MergePassed C A B path flag mode O) where
  pub reads : Reads (order_of C) C A (places_of (order_of C) C B) B path flag mode O
  reads =
      rw p.object
      (merged_reads (order_of C) C A (places_of (order_of C) C B) B path flag mode p.movable p.inputs.opened.sound refl p.inputs.assembled
      (path_full path p.path_is) p.unclashed p.agrees.complete p.symbols
      (pathed_kept C A B path flag mode _ (subst (MergePassed C A B path flag mode) p.object p)))
