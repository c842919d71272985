-- The entries one by one: entry 0, those behind it by the order, and the bytes of the first k of them. Assumes nothing.
use Prim.Native.Nat.{ℕ, zero, suc, ◌+◌, ◌-◌, ◌*◌, ◌≤◌, ◌<◌}
use mathlib.Core.Path.{◌≡◌, refl, sym, ap, ◌∙◌}
use mathlib.Core.Logic.{◌≢◌}
use mathlib.Core.Bool.{true}
use mathlib.Core.List.{List}
use native.Mathlib.Omega.{arith}
use lib.ListN.{length}
use Rattle.base_lists.specs.Ranges.{gather}
use Rattle.base_lists.specs.Windows.{spliced}
use Rattle.base_lists.proofs.Ranges.{gather_zero, gather_yes, gather_all_length}
use Rattle.base_lists.proofs.Windows.{spliced_nil, spliced_then}
use Rattle.base_fields.specs.declared.ByteOrder.{ByteOrder}
use Rattle.base_scope.specs.Limits.{ID_ROW}
use Rattle.elf_records.specs.declared.symbol.SymbolEntry.{SymbolEntry}
use Rattle.elf_records.specs.Symbol.{symbol_bytes}
use Rattle.elf_records.proofs.RoundTrip.{length_symbol}
use Rattle.statics_table.specs.Table.{statics_in}
use Rattle.symbols_entries.specs.of_symbols_ids.Entries.{finished}
use Rattle.symbols_entries.specs.of_symbols_ids.Ids.{name_of}
use Rattle.symbols_entries.specs.of_symbols_ids.Table.{null_entry}
use Rattle.symbols_rows.specs.declared.IdRow.{IdRow}
use Rattle.symbols_rows.specs.Rows.{id_row, half_in}
use Rattle.symbols_entries.specs.Ids.{origin_in, EntriesReady}
use Rattle.symbols_chain.specs.of_symbols_holders.Ready.{id_count}
use Rattle.symbols_chain.specs.declared.Numbering.{Numbering}
use Rattle.symbols_table.specs.Table.{id_at, row_entry, entry_in, symbols_table_in, InOrder, SymbolsReady}

-- an id that was read
pub id_read : (L O : List ℕ) (k p r : ℕ) → p ≡ half_in O k → r ≡ half_in L p → r ≡ id_at L O k
unfolding id_at
id_read L O k p r e f = f ∙ ap (half_in L) e

module _ (C A T M R L O : List ℕ) (n : Numbering) where
  abbrev o : ByteOrder
  o = n.filling.inputs.order

  zero_low : (r : SymbolEntry) → r ≡ null_entry → r.st_shndx < 65536
  unfolding null_entry
  zero_low r e = rw e (omega arith)

  -- entry 0
  pub entry_null : (k : ℕ) (r : SymbolEntry) → k ≡ 0 → r ≡ null_entry → (r ≡ entry_in C A T M R L O n k) × (r.st_shndx < 65536)
  unfolding entry_in
  entry_null k r z e = (rw z e, zero_low r e)

  -- an entry behind it
  entry_next : (k : ℕ) → k ≢ 0 → entry_in C A T M R L O n k ≡ row_entry C A T M R n.filling (id_at L O (k - 1))
  unfolding entry_in
  entry_next zero d = absurd (d refl)
  entry_next (suc k) d = let e : suc k - 1 ≡ k = omega arith in rw e

  module _ (q : SymbolsReady C A T M R L O n) (k : ℕ) (h : k < n.count) (d : k ≢ 0) where
    low : k - 1 + 1 < n.count
    low = omega arith

    pub entry_order : InOrder L O (k - 1)
    entry_order = q.words (k - 1) low

    module _ (i : ℕ) (is : i ≡ id_at L O (k - 1)) where
      pub entry_row : ID_ROW * i + ID_ROW ≤ length R
      entry_row = rw is (q.rows (k - 1) low)

      pub entry_id : EntriesReady o C A T M n.filling.sources × (i < id_count n.filling.sources)
      entry_id = (q.entries, rw is (q.ids (k - 1) low))

      made : (row : IdRow) (r : SymbolEntry) → row ≡ id_row R i
          → r ≡ finished (name_of o C A (statics_in T n.filling.sources.statics) i) (origin_in o C A T M n.filling.sources n.filling.mode row.section row.value i)
          → r ≡ row_entry C A T M R n.filling (id_at L O (k - 1))
      unfolding row_entry id_row
      made row r e f = rw (e, is) at f

      pub entry_made : (row : IdRow) (r : SymbolEntry) → row ≡ id_row R i
          → r ≡ finished (name_of o C A (statics_in T n.filling.sources.statics) i) (origin_in o C A T M n.filling.sources n.filling.mode row.section row.value i)
          → (r ≡ entry_in C A T M R L O n k) × (r.st_shndx < 65536)
      entry_made row r e f =
          let g = made row r e f in
          (g ∙ sym (entry_next k d), rw g (q.indices (k - 1) low))

  -- ---- the first k entries, written from `at` on

  abbrev entry_bytes : ℕ → List ℕ
  entry_bytes k = symbol_bytes o (entry_in C A T M R L O n k)

  pub record EntriesWritten (before : List ℕ) (at k : ℕ) (after : List ℕ) : Type 0 where
    pub below : k ≤ n.count
    pub long : length after ≡ length before
    pub bytes : after ≡ spliced before at (gather (λ j. true) entry_bytes k)

  module _ (before : List ℕ) (at : ℕ) where
    pub wrote_none : EntriesWritten before at 0 before
    wrote_none = record { below = omega arith; long = refl; bytes = sym (ap (spliced before at) (gather_zero (λ j. true) entry_bytes) ∙ spliced_nil before at) }

    entries_long : (k : ℕ) → length (gather (λ j. true) entry_bytes k) ≡ 16 * k
    entries_long k = gather_all_length entry_bytes 16 (λ j. length_symbol o (entry_in C A T M R L O n j)) k

    module _ (k : ℕ) (out : List ℕ) (w : EntriesWritten before at k out) (room : at + 16 * n.count ≤ length before) where
      pub wrote_room : k < n.count → at + 16 * k + 16 ≤ length out
      wrote_room h = omega (arith, w.long)

      pub wrote_next : (e : SymbolEntry) (after : List ℕ) → k < n.count → e ≡ entry_in C A T M R L O n k → length after ≡ length out → after ≡ spliced out (at + 16 * k) (symbol_bytes o e)
          → EntriesWritten before at (k + 1) after
      wrote_next e after h is kept put =
          let l : length (entry_bytes k) ≡ 16 = length_symbol o (entry_in C A T M R L O n k) in
          record {
            below = omega arith;
            long = kept ∙ w.long;
            bytes =
                put
                ∙ ap (λ (x : SymbolEntry). spliced out (at + 16 * k) (symbol_bytes o x)) is
                ∙ ap (λ (x : List ℕ). spliced x (at + 16 * k) (entry_bytes k)) w.bytes
                ∙ spliced_then before at (gather (λ j. true) entry_bytes k) (entry_bytes k) (at + 16 * k) (omega (arith, entries_long k)) (omega (arith, l))
                ∙ ap (spliced before at) (sym (gather_yes (λ j. true) entry_bytes k refl));
          }

      pub wrote_end : n.count ≤ k → (out ≡ spliced before at (symbols_table_in C A T M R L O n)) × (at + 16 * k ≡ at + 16 * n.count)
      unfolding symbols_table_in
      wrote_end h =
          let e : k ≡ n.count = omega (arith, w.below) in
          (w.bytes ∙ ap (λ (j : ℕ). spliced before at (gather (λ i. true) entry_bytes j)) e, ap (λ (j : ℕ). at + 16 * j) e)
