-- The rows that are filled are those of the candidates: a taken id stands where its entry in the result does, by where it comes from. Assumes nothing.
use Prim.Native.Nat.{ℕ, ◌+◌, ◌-◌, ◌*◌, ◌≤◌, ◌<◌}
use mathlib.Core.Path.{◌≡◌, refl, sym, ap, ◌∙◌}
use mathlib.Core.Bool.{Bool, true}
use mathlib.Core.List.{List}
use native.Mathlib.Omega.{arith}
use lib.ListN.{length}
use Rattle.base_lists.specs.Windows.{Within}
use Rattle.base_fields.specs.declared.ByteOrder.{ByteOrder}
use Rattle.base_packed.specs.Packed.{binding_of}
use Rattle.base_scope.specs.Limits.{ID_ROW}
use Rattle.base_scope.specs.Codes.{LATE_TARGET}
use Rattle.elf_records.specs.declared.symbol.SymbolEntry.{SymbolEntry}
use Rattle.elf_readers.specs.Readers.{coded_contents}
use Rattle.elf_symbols.specs.Symbols.{symbol_count, symbol}
use Rattle.elf_symbols.proofs.Symbols.{table_count}
use Rattle.blocks_places.specs.Places.{Place}
use Rattle.late_laws.proofs.of_late_lookups.Lookups.{late_rows}
use Rattle.symbols_holders.specs.of_merge_labels.Labels.{late_start}
use Rattle.statics_table.specs.declared.Static.{Static}
use Rattle.statics_table.specs.Table.{statics_in}
use Rattle.symbols_merge.proofs.Agree.{Agree}
use Rattle.symbols_holders.specs.of_symbols_taken.Taken.{is_taken_c, is_taken_a}
use Rattle.symbols_holders.specs.of_symbols_taken.Code.{used_bytes}
use Rattle.symbols_holders.specs.of_symbols_ids.Entries.{entry_a}
use Rattle.symbols_holders.specs.of_symbols_ids.Ids.{by_origin, name_of, entry_static, entry_of, candidates}
use Rattle.symbols_holders.proofs.of_symbols_names.Names.{ids_held}
use Rattle.symbols_rows.specs.Rows.{RowsOf, ListOf}
use Rattle.symbols_rows.proofs.Rows.{row_fields}
use Rattle.symbols_rows.proofs.Tables.{rows_of, filled_agree}
use Rattle.symbols_holders.specs.Ready.{id_count, id_name, symbols_in, HoldersReady}
use Rattle.symbols_fill.specs.declared.SymbolPlace.{SymbolPlace}
use Rattle.symbols_fill.specs.declared.Filling.{Filling}
use Rattle.symbols_fill.specs.Fill.{place_by_entry, place_c, place_a, place_static, taken_place, is_taken, id_place, row_of, PlacesReady, FillReady, FilledRows}
use Rattle.symbols_fill.specs.Stage.{FillStage}
use Rattle.symbols_fill.proofs.Origins.{origin_other, kind_unnamed, kind_gp}
use Rattle.symbols_fill.proofs.Filled.{ids_few}
use Rattle.symbols_fill.proofs.Origins.{origin_related}
use Rattle.symbols_fill.proofs.Entries.{finished_place, place_c_is, place_a_is, place_static_is}

module _ (C A : List ℕ) (P : List Place) (B T late : List ℕ) (f : Filling) (s : FillStage C A P B T late f) where
  abbrev o : ByteOrder
  o = f.inputs.order

  abbrev S : List Static
  S = statics_in T f.sources.statics

  -- how many symbols C and A have
  abbrev n : ℕ
  n = f.sources.compiled.count

  abbrev m : ℕ
  m = f.sources.assembled.count

  own_count : n ≡ symbol_count o C
  own_count = table_count o C f.sources.compiled s.names.compiled

  other_count : m ≡ symbol_count o A
  other_count = table_count o A f.sources.assembled s.names.assembled

  module _ (i : ℕ) where
    taken_a : is_taken o C A i ≡ true → n ≤ i → i < n + m → is_taken_a o A (i - n) ≡ true
    unfolding is_taken
    taken_a taken l u = sym (origin_other o C A n m own_count other_count i Bool (is_taken_c o C) (is_taken_a o A) (λ j. true) l u) ∙ taken

    -- a taken id stands where its entry does
    pub place_is : i < id_count f.sources → is_taken o C A i ≡ true → id_place C A T late f i ≡ place_by_entry (entry_of o C A P B f.mode S i)
    unfolding id_place entry_of
    place_is h taken =
        origin_related o C A n m own_count other_count i SymbolPlace SymbolEntry place_by_entry (place_c o C) (place_a A late f) (place_static T f) (symbol o C) (entry_a o C A P B)
        (entry_static o C A P B f.mode S) (place_c_is o C i)
        (λ l u. place_a_is C A P B T late f s (i - n) (omega (arith, l, u, other_count)) (taken_a taken l u))
        (λ l. place_static_is C A P B T late f s (i - (n + m)) (omega (arith, h, l)))
        ∙ sym (finished_place (name_of o C A S i) (by_origin o C A (symbol o C) (entry_a o C A P B) (entry_static o C A P B f.mode S) i))

    -- and so its row
    row_place : i < id_count f.sources → is_taken o C A i ≡ true → taken_place (is_taken o C A i) (id_place C A T late f i) ≡ place_by_entry (entry_of o C A P B f.mode S i)
    row_place h taken = rw taken (place_is h taken)

    pub row_section : i < id_count f.sources → is_taken o C A i ≡ true → (row_of C A T late f i).section ≡ (entry_of o C A P B f.mode S i).st_shndx
    unfolding row_of place_by_entry
    row_section h taken = ap (λ (x : SymbolPlace). x.section) (row_place h taken)

    pub row_value : i < id_count f.sources → is_taken o C A i ≡ true → (row_of C A T late f i).value ≡ (entry_of o C A P B f.mode S i).st_value
    unfolding row_of place_by_entry
    row_value h taken = ap (λ (x : SymbolPlace). x.value) (row_place h taken)

    pub row_binding : i < id_count f.sources → is_taken o C A i ≡ true → (row_of C A T late f i).binding ≡ binding_of (entry_of o C A P B f.mode S i).st_info
    unfolding row_of place_by_entry
    row_binding h taken = ap (λ (x : SymbolPlace). x.binding) (row_place h taken)

  -- ---- what is in hand, and what filling leaves

  pub places_ready : PlacesReady C A T late f
  places_ready = record {
    compiled = s.compiled;
    assembled = s.assembled;
    names = s.names;
    table = λ t. rw s.many (late_rows o P B (coded_contents o C LATE_TARGET) (late_start o A) late (s.moves t));
    codes = s.codes;
  }

  pub fill_ready : (used : List ℕ) → Within (used_bytes o A) 0 used → FillReady C A T used late f
  fill_ready used w = record { places = places_ready; marks = w }

  module _ (before : List ℕ) (count : ℕ) (after : List ℕ) (r : FilledRows C A T late f before count after) where
    many : (candidates o C A P B f.mode S).many ≡ id_count f.sources
    unfolding candidates
    many = ids_held o C A T f.sources s.names

    -- the rows are of the names
    pub fill_rows_of : ID_ROW * id_count f.sources ≤ length before → RowsOf after (id_count f.sources) (id_name o C A T f.sources)
    unfolding row_of
    fill_rows_of h =
        rows_of after (id_count f.sources) (id_name o C A T f.sources) (row_of C A T late f) (ids_few C A T late f places_ready) (omega (arith, r.long, h)) r.rows (λ i l t. kind_unnamed _ _ t) (λ i l t. kind_gp _ _ t)

    -- so that the holders of their list can be found
    pub fill_holders : ID_ROW * id_count f.sources ≤ length before → (L : List ℕ) (p : ℕ) → ListOf (symbols_in o C A T f.sources after) L p → HoldersReady o C A T f.sources after L p
    fill_holders h L p l = record { read = s.names; rows = fill_rows_of h; list = l }

    -- the candidates that the rows tell of agree with those of the merge: one list, one verdict, one number each (symbols_merge, proofs/Agree.antt)
    pub fill_agree : Agree (symbols_in o C A T f.sources after) (candidates o C A P B f.mode S)
    unfolding candidates row_of is_taken
    fill_agree =
        let below : (i : ℕ) → i < (candidates o C A P B f.mode S).many → i < id_count f.sources = λ i h. omega (arith, h, many) in
        rw (← many)
        (filled_agree after (row_of C A T late f) (candidates o C A P B f.mode S) (λ i h. r.rows i (below i h))
        (λ i h. refl)
        (λ i h t. row_section i (below i h) t)
        (λ i h t. row_value i (below i h) t)
        (λ i h t. row_binding i (below i h) t))
