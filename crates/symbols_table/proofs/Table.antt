-- What is written is the symbol table of the merge: the order leads through the list to the candidates of the result, which are taken, so that their rows have their sections and
-- values and their entries are the merge's. Assumes what the stages before leave (`TableStage`).
use Prim.Native.Nat.{ℕ, zero, suc, ◌+◌, ◌-◌, ◌*◌, ◌≤◌, ◌<◌}
use mathlib.Core.Path.{◌≡◌, refl, sym, ap, ◌∙◌}
use mathlib.Core.Bool.{true}
use mathlib.Core.List.{List}
use native.Mathlib.Omega.{arith}
use native.Mathlib.Numerals.{add-one}
use lib.ListN.{length}
use Rattle.base_lists.specs.Ranges.{gather}
use Rattle.base_lists.proofs.Ranges.{gather_same}
use Rattle.base_fields.specs.declared.ByteOrder.{ByteOrder}
use Rattle.base_scope.specs.Limits.{STATIC_LIMIT, WRITTEN_LIMIT, ID_ROW}
use Rattle.elf_records.specs.Symbol.{symbol_bytes}
use Rattle.blocks_places.specs.Places.{Place}
use Rattle.statics_table.specs.declared.Static.{Static}
use Rattle.statics_table.specs.Statics.{names_length}
use Rattle.statics_table.specs.Table.{static_in, statics_in}
use Rattle.statics_table.proofs.Table.{length_statics, statics_at}
use Rattle.statics_entry.specs.Entry.{nth}
use Rattle.symbols_merge.specs.Candidates.{Candidates}
use Rattle.symbols_merge.specs.Listed.{listed, listed_at}
use Rattle.symbols_merge.specs.Merged.{merged_count, merged_at}
use Rattle.symbols_merge.proofs.Merged.{Taken, merged_taken}
use Rattle.symbols_merge.proofs.Agree.{Agree, listed_agree, at_agree}
use Rattle.symbols_entries.specs.of_symbols_ids.Ids.{entry_of, candidates}
use Rattle.symbols_entries.specs.of_symbols_ids.Table.{result_entry, result_symbols}
use Rattle.symbols_entries.proofs.of_symbols_names.Names.{own_count, other_count, ids_held}
use Rattle.symbols_entries.specs.Ids.{EntriesReady}
use Rattle.symbols_entries.proofs.Ids.{name_low, offset_low, entry_of_lem}
use Rattle.symbols_rows.specs.Rows.{id_section, id_value, half_in}
use Rattle.symbols_rows.proofs.Rows.{row_fields}
use Rattle.symbols_rows.proofs.Tables.{list_long, list_at}
use Rattle.symbols_chain.specs.of_symbols_holders.Ready.{id_count, symbols_in}
use Rattle.symbols_numbers.proofs.Result.{entry_is, entry_lt}
use Rattle.symbols_chain.specs.of_symbols_fill.declared.Filling.{Filling}
use Rattle.symbols_chain.specs.of_symbols_fill.Fill.{is_taken, row_of}
use Rattle.symbols_chain.proofs.of_symbols_fill.Candidates.{row_section, row_value, fill_agree}
use Rattle.symbols_chain.specs.declared.Numbering.{Numbering}
use Rattle.symbols_table.specs.Table.{id_at, row_entry, entry_in, symbols_table_in, InOrder, SymbolsReady}
use Rattle.symbols_table.specs.Stage.{candidates_by, TableStage}
use Rattle.symbols_table.proofs.Indices.{index_low}

module _ (C A : List ℕ) (P : List Place) (B T late M R L O : List ℕ) (m : ℕ) (n : Numbering) (g : TableStage C A P B T late M R L O m n) where
  abbrev f : Filling
  f = n.filling

  abbrev o : ByteOrder
  o = f.inputs.order

  abbrev S : List Static
  S = statics_in T f.sources.statics

  -- the candidates in hand, and those of the merge
  abbrev s : Candidates
  s = symbols_in o C A T f.sources R

  abbrev t : Candidates
  t = candidates_by C A P B T f

  -- ---- what entries are made of

  nth_row : (k : ℕ) → k < g.tally.count → nth (statics_in T g.tally.count) k ≡ static_in T k
  unfolding nth
  nth_row k h = statics_at T k g.tally.count _ h

  offset_small : (k : ℕ) → k < g.tally.count → (static_in T k).offset ≤ WRITTEN_LIMIT * STATIC_LIMIT
  offset_small k h =
      let L' : List Static = statics_in T g.tally.count in
      let long : length L' ≡ g.tally.count = length_statics T g.tally.count in
      let low : names_length g.head L' ≤ WRITTEN_LIMIT * length L' = omega (arith, g.table.names, g.table.low, long) in
      rw (nth_row k h) at (offset_low o C g.head L' g.statics low k (omega (arith, h, long)))

  pub entries_ready : EntriesReady o C A T M f.sources
  entries_ready = record {
    names = g.filled.names;
    own = g.compiled_small;
    other = g.assembled_small;
    words = g.room;
    starts = name_low o A f.sources.assembled g.filled.names.assembled g.assembled g.assembled_small;
    offsets = λ k h. offset_small k (omega (arith, h, g.many));
  }

  -- ---- a taken id

  many_ids : t.many ≡ id_count f.sources
  unfolding candidates
  many_ids = ids_held o C A T f.sources g.filled.names

  module _ (i : ℕ) (u : Taken t i) where
    is_id : i < id_count f.sources
    is_id = omega (arith, u.0, many_ids)

    is_taken_lem : is_taken o C A i ≡ true
    unfolding is_taken candidates
    is_taken_lem = u.1

    place_same : id_section R i ≡ (entry_of o C A P B f.mode S i).st_shndx
    place_same = (row_fields R i (row_of C A T late f i) (g.listed.filled.rows i is_id)).section ∙ row_section C A P B T late f g.filled i is_id is_taken_lem

    value_same : id_value R i ≡ (entry_of o C A P B f.mode S i).st_value
    value_same = (row_fields R i (row_of C A T late f i) (g.listed.filled.rows i is_id)).value ∙ row_value C A P B T late f g.filled i is_id is_taken_lem

    -- its entry is the merge's
    pub row_entry_lem : row_entry C A T M R f i ≡ entry_of o C A P B f.mode S i
    unfolding row_entry
    row_entry_lem = entry_of_lem o C A T M f.sources g.filled.names P B f.mode i (id_section R i) (id_value R i) is_id g.marked place_same value_same

    row_index : (row_entry C A T M R f i).st_shndx < 65536
    row_index =
        let own = own_count o C A T f.sources g.filled.names in
        let other = other_count o C A T f.sources g.filled.names in
        rw row_entry_lem (index_low o C A P B f.mode S g.compiled g.assembled f.sources.compiled.count f.sources.assembled.count own other i)

    row_held : ID_ROW * i + ID_ROW ≤ length R
    row_held = omega (arith, is_id, g.listed.ready.rows.long)

  -- ---- an entry behind entry 0

  agree : Agree s t
  agree = fill_agree C A P B T late f g.filled R (id_count f.sources) R g.listed.filled

  module _ (k : ℕ) (h : suc k < n.count) where
    below : suc k < merged_count t
    below = omega (arith, h, g.counted)

    back : suc k - 1 ≡ k
    back = omega arith

    position_low : half_in O k < m
    position_low =
        let a : half_in O k < length (listed t) = rw back at (entry_lt t O g.ordered (suc k) (omega arith) below) in
        omega (arith, a, ap length (listed_agree s t agree), list_long s L m g.listed.ready.list)

    -- the id that the order has for it is the candidate whose symbol it is
    pub id_merged : id_at L O k ≡ merged_at t (suc k)
    unfolding id_at
    id_merged =
        list_at s L m g.listed.ready.list (half_in O k) position_low
        ∙ at_agree s t agree (half_in O k)
        ∙ ap (λ (j : ℕ). listed_at t (half_in O j)) (sym back)
        ∙ sym (entry_is t O g.ordered (suc k) (omega arith) below)

    id_taken_lem : Taken t (id_at L O k)
    id_taken_lem = rw id_merged (merged_taken t (suc k) (omega arith) below)

    in_order : InOrder L O k
    unfolding merged_count
    in_order = record { place = omega (arith, below, g.ordered.long); position = omega (arith, position_low, g.listed.ready.list.long) }

  -- ---- the whole table

  pub symbols_ready : SymbolsReady C A T M R L O n
  unfolding merged_count
  symbols_ready =
      let up : (k : ℕ) → k + 1 < n.count → suc k < n.count = λ k h. rw (add-one k) at h in
      record {
        entries = entries_ready;
        some = omega (arith, g.counted);
        words = λ k h. in_order k (up k h);
        ids = λ k h. is_id (id_at L O k) (id_taken_lem k (up k h));
        rows = λ k h. row_held (id_at L O k) (id_taken_lem k (up k h));
        indices = λ k h. row_index (id_at L O k) (id_taken_lem k (up k h));
      }

  entry_same : (k : ℕ) → k < n.count → entry_in C A T M R L O n k ≡ result_entry o C A P B f.mode S k
  unfolding entry_in result_entry
  entry_same zero h = refl
  entry_same (suc k) h = row_entry_lem (id_at L O k) (id_taken_lem k h) ∙ ap (entry_of o C A P B f.mode S) (id_merged k h)

  pub symbols_table : symbols_table_in C A T M R L O n ≡ result_symbols o C A P B f.mode S
  unfolding symbols_table_in result_symbols
  symbols_table =
      gather_same (λ k. true) (λ k. true) (λ k. symbol_bytes o (entry_in C A T M R L O n k)) (λ k. symbol_bytes o (result_entry o C A P B f.mode S k)) n.count
      (λ k h. refl)
      (λ k h u. ap (symbol_bytes o) (entry_same k h))
      ∙ ap (gather (λ k. true) (λ k. symbol_bytes o (result_entry o C A P B f.mode S k))) g.counted
