-- The symbol table of the merged object: its entries are whole, each has a name with its end and the index of a section or a reserved one (refusal 5). Assumes nothing.
use Rattle.std.specs.Prelude.{None}
use Prim.Native.Nat.{ℕ, ◌*◌, ◌≤◌, ◌<◌}
use mathlib.Core.Path.{◌≡◌, refl, sym, ap, ◌∙◌}
use mathlib.Core.Bool.{true}
use mathlib.Core.List.{List}
use native.Mathlib.Omega.{arith}
use lib.ListN.{length}
use lib.Dec.{eqb}
use borrow.Author.Tests.{ne_eqb}
use Rattle.base_lists.specs.Strings.{has_end}
use Rattle.base_lists.proofs.Ranges.{by-lt, and_true, gather_all_length}
use Rattle.base_lists.proofs.Strings.{has_end_append}
use Rattle.base_fields.specs.declared.ByteOrder.{ByteOrder}
use Rattle.base_scope.specs.Elf.{SHT_SYMTAB, SHT_NOBITS}
use Rattle.elf_records.specs.declared.section.SectionHeader.{SectionHeader}
use Rattle.elf_records.specs.declared.symbol.SymbolEntry.{SymbolEntry}
use Rattle.elf_records.specs.Symbol.{symbol_bytes}
use Rattle.elf_records.proofs.RoundTrip.{length_symbol}
use Rattle.elf_readers.specs.Readers.{header, section_count, section}
use Rattle.elf_symbols.specs.Symbols.{symtab, symbol_count, symbol, symbol_strings}
use Rattle.elf_symbols.proofs.Symbols.{symtab_type}
use Rattle.elf_symbol_faults.specs.Faults.{zero_entry, index_sound, null_symbol_sound, symbol_sound}
use Rattle.elf_symbol_faults.proofs.Faults.{index_there, null_other}
use Rattle.elf_check.specs.Sound.{Sound}
use Rattle.blocks_places.specs.Places.{Place}
use Rattle.statics_table.specs.declared.Static.{Static}
use Rattle.statics_table.specs.Statics.{name_head}
use Rattle.statics_walk.specs.Walk.{statics}
use Rattle.statics_walk.proofs.Sound.{statics_sound}
use Rattle.merge_kept.specs.Kept.{kept}
use Rattle.merge_kept.proofs.Kept.{symtab_kept}
use Rattle.symbols_merge.specs.Candidates.{Candidates}
use Rattle.symbols_merge.specs.Merged.{merged_count, merged_at}
use Rattle.symbols_taken.specs.Passed.{TakenPassed}
use Rattle.symbols_ids.specs.Ids.{entry_of, candidates, merge_candidates}
use Rattle.symbols_ids.specs.Table.{null_entry, result_entry, result_symbols}
use Rattle.carry_clash.specs.Clash.{clash_finding}
use Rattle.write_strings.specs.Strings.{result_strings}
use Rattle.write_strings.proofs.Names.{Full}
use Rattle.write_object.specs.Object.{Plan, moved_finding}
use Rattle.write_object.specs.Steps.{heading_with}
use Rattle.write_object.proofs.Own.{own_ident}
use Rattle.write_object.proofs.ReadBack.{size_back, size_held}
use Rattle.demand_symbols.specs.of_write_plan.Plan.{added_names, kept_heading, merged_plan, merged_object}
use Rattle.demand_symbols.proofs.of_write_plan.Sections.{null_kept, symbols_bytes}
use Rattle.demand_symbols.proofs.of_write_plan.Headers.{many_is, content_is, type_kept, merged_count_lem, kept_header}
use Rattle.demand_symbols.proofs.of_write_plan.Symbols.{symtab_merged, symbol_count_merged, symbol_merged, symbol_strings_merged}
use Rattle.demand_symbols.proofs.of_write_plan.Names.{named_all, entry_at, candidate_at, null_is, null_end, null_unnamed}
use Rattle.demand_reads.proofs.Clash.{index_sound_lem}
use Rattle.demand_reads.proofs.Entries.{entry_index}

module _ (o : ByteOrder) (C A : List ℕ) (P : List Place) (B path : List ℕ) (flag mode : ℕ) where
  abbrev p : Plan
  p = merged_plan o C A P B path flag mode

  abbrev O : List ℕ
  O = merged_object o C A P B path flag mode

  abbrev stay : ℕ
  stay = kept o C flag

  abbrev head : ℕ
  head = length (name_head mode path)

  abbrev S : List Static
  S = statics o C mode (length (name_head mode path))

  abbrev s : Candidates
  s = merge_candidates o C A P B mode (length (name_head mode path))

  abbrev entry : ℕ → SymbolEntry
  entry = result_entry o C A P B mode S

  module _ (clear : moved_finding p o ≡ None) (sound : Sound o C) where
    -- ---- the table

    abbrev t : ℕ
    t = symtab o C

    there : t < stay
    there = symtab_kept o C flag sound.tabled

    below : t < p.many
    below = rw (many_is o C A P B path flag mode) (omega (arith, there))

    -- entries are as wide as C's
    pub entry_width : (section o C (symtab o C)).sh_entsize ≡ 16 → (section o O (symtab o O)).sh_entsize ≡ 16
    unfolding heading_with kept_heading
    entry_width e =
        ap (λ (i : ℕ). (section o O i).sh_entsize) (symtab_merged o C A P B path flag mode clear sound sound.names)
        ∙ ap (λ (x : SectionHeader). x.sh_entsize) (kept_header o C A P B path flag mode clear t there)
        ∙ e

    symbols_long : length (result_symbols o C A P B mode S) ≡ 16 * merged_count s
    unfolding result_symbols merge_candidates
    symbols_long = gather_all_length (λ k. symbol_bytes o (entry k)) 16 (λ k. length_symbol o (entry k)) (merged_count (candidates o C A P B mode S))

    table_size : (section o O t).sh_size ≡ length (p.content t)
    unfolding merged_object
    table_size =
        let e : (p.heading t).sh_type ≡ SHT_SYMTAB = type_kept o C A P B path flag mode t there ∙ symtab_type o C sound.tabled.table in
        size_back p o (header o C) (own_ident o C) clear t below
        ∙ size_held p o (header o C) (own_ident o C) clear t below (ne_eqb (p.heading t).sh_type SHT_NOBITS (λ q. omega (arith, e, q)))

    -- and none is cut
    pub table_whole : (section o O (symtab o O)).sh_size ≡ 16 * symbol_count o O
    table_whole =
        ap (λ (i : ℕ). (section o O i).sh_size) (symtab_merged o C A P B path flag mode clear sound sound.names)
        ∙ table_size
        ∙ ap length (content_is o C A P B path flag mode t ∙ symbols_bytes o C A P B path flag mode sound sound.names)
        ∙ symbols_long
        ∙ ap (λ (x : ℕ). 16 * x) (sym (symbol_count_merged o C A P B path flag mode clear sound sound.names))

    -- entry 0 is there
    pub some_entry : 1 ≤ symbol_count o O
    unfolding merged_count
    some_entry = omega (arith, symbol_count_merged o C A P B path flag mode clear sound sound.names)

    -- ---- its entries

    abbrev R : List ℕ
    R = result_strings o C A mode path S

    name_ended : (k : ℕ) → k < merged_count s → has_end R (entry k).st_name ≡ true → has_end (symbol_strings o O) (symbol o O k).st_name ≡ true
    name_ended k h e =
        ap (λ (x : SymbolEntry). has_end (symbol_strings o O) x.st_name) (symbol_merged o C A P B path flag mode clear sound sound.names k h)
        ∙ ap (λ (x : List ℕ). has_end x (entry k).st_name) (symbol_strings_merged o C A P B path flag mode clear sound sound.names)
        ∙ has_end_append R (added_names o C A P B path flag mode _) (entry k).st_name e

    -- entry 0
    null_zero : zero_entry null_entry ≡ true
    unfolding zero_entry null_entry
    null_zero = refl

    null_sound : 0 < merged_count s → null_symbol_sound o O 0 ≡ true
    unfolding null_symbol_sound
    null_sound h =
        let e = symbol_merged o C A P B path flag mode clear sound sound.names 0 h ∙ null_is o C A P B path flag mode sound in
        and_true _ _ (ap zero_entry e ∙ null_zero) (ap (λ (x : List ℕ). eqb (length x) 0) (null_unnamed o C A P B path flag mode sound clear sound.names h))

    null_index : 0 < merged_count s → index_sound (section_count o O) (symbol o O 0).st_shndx ≡ true
    unfolding null_entry
    null_index h =
        let e : (symbol o O 0).st_shndx ≡ 0 = ap (λ (x : SymbolEntry). x.st_shndx) (symbol_merged o C A P B path flag mode clear sound sound.names 0 h ∙ null_is o C A P B path flag mode sound) in
        ap (index_sound (section_count o O)) e
        ∙ sym (index_there (section_count o O) 0 (omega (arith, merged_count_lem o C A P B path flag mode clear, null_kept o C A P B path flag mode sound sound.names)))

    null_symbol : 0 < merged_count s → symbol_sound o O 0 ≡ true
    unfolding symbol_sound
    null_symbol h = and_true _ _ (name_ended 0 h (null_end o C A P B path flag mode sound)) (and_true _ _ (null_sound h) (null_index h))

    module _ (soundA : Sound o A) (full : Full path) where
      -- from 1 on
      entry_end : (k : ℕ) → 1 ≤ k → k < merged_count s → has_end R (entry k).st_name ≡ true
      entry_end k l h =
          ap (λ (x : SymbolEntry). has_end R x.st_name) (entry_at o C A P B path flag mode k l)
          ∙ (named_all o C A P B mode path S sound soundA (statics_sound o C mode head) full (merged_at s k) (candidate_at o C A P B path flag mode k l h).0).ended

      module _ (unclashed : clash_finding o C A flag ≡ None) (passed : TakenPassed o C A P B) where
        section_index : (k : ℕ) → 1 ≤ k → k < merged_count s → index_sound (section_count o O) (symbol o O k).st_shndx ≡ true
        section_index k l h =
            let i : ℕ = merged_at s k in
            let c = candidate_at o C A P B path flag mode k l h in
            let e : (symbol o O k).st_shndx ≡ (entry_of o C A P B mode S i).st_shndx
            = ap (λ (x : SymbolEntry). x.st_shndx) (symbol_merged o C A P B path flag mode clear sound sound.names k h ∙ entry_at o C A P B path flag mode k l) in
            let some = null_kept o C A P B path flag mode sound sound.names in
            ap (index_sound (section_count o O)) e
            ∙ index_sound_lem stay (section_count o O) (entry_of o C A P B mode S i).st_shndx (omega (arith, merged_count_lem o C A P B path flag mode clear))
            (entry_index o C A P B mode S flag sound some unclashed passed head (statics_sound o C mode head) i c.0 c.1)

        other_symbol : (k : ℕ) → 1 ≤ k → k < merged_count s → symbol_sound o O k ≡ true
        unfolding symbol_sound
        other_symbol k l h =
            and_true _ _ (name_ended k h (entry_end k l h))
            (and_true _ _ (sym (null_other o O k (λ q. omega (arith, q, l)))) (section_index k l h))

        -- refusal 5 does not hold of an entry
        pub symbols_sound : (k : ℕ) → k < symbol_count o O → symbol_sound o O k ≡ true
        symbols_sound k h =
            let u : k < merged_count s = rw (symbol_count_merged o C A P B path flag mode clear sound sound.names) at h in
            by-lt 0 k
            (λ l. other_symbol k l u)
            (λ l.
            let e : k ≡ 0 = omega (arith, l) in
            let z : 0 < merged_count s = omega (arith, u) in
            ap (symbol_sound o O) e ∙ null_symbol z)
