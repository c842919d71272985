-- Of the code, not of document 01: the symbol table of the result over what is in hand. C is the compiled object, A the assembled one, T the table of statics, M the words of the
-- glabels, R the rows of the ids, L the list of them, O the order of the result, n the rest. proofs/Table.antt says that it is `result_symbols` of the crate symbols_ids.
use Rattle.std.specs.Prelude.{ℕ, zero, suc, ◌+◌, ◌*◌, ◌≤◌, ◌<◌, true, List, length}
use Rattle.base_lists.specs.Ranges.{gather}
use Rattle.base_scope.specs.Limits.{ID_ROW}
use Rattle.elf_records.specs.declared.symbol.SymbolEntry.{SymbolEntry}
use Rattle.elf_records.specs.Symbol.{symbol_bytes}
use Rattle.statics_table.specs.Table.{statics_in}
use Rattle.symbols_entries.specs.of_symbols_ids.Entries.{finished}
use Rattle.symbols_entries.specs.of_symbols_ids.Ids.{name_of}
use Rattle.symbols_entries.specs.of_symbols_ids.Table.{null_entry}
use Rattle.symbols_rows.specs.Rows.{id_section, id_value, half_in}
use Rattle.symbols_entries.specs.Ids.{origin_in, EntriesReady}
use Rattle.symbols_chain.specs.of_symbols_holders.Ready.{id_count}
use Rattle.symbols_chain.specs.of_symbols_fill.declared.Filling.{Filling}
use Rattle.symbols_chain.specs.declared.Numbering.{Numbering}

-- the id at place k of the order
unfoldable pub id_at : List ℕ → List ℕ → ℕ → ℕ
id_at L O k = half_in L (half_in O k)

-- the entry of id i, with the section and the value of its row
unfoldable pub row_entry : List ℕ → List ℕ → List ℕ → List ℕ → List ℕ → Filling → ℕ → SymbolEntry
row_entry C A T M R f i =
    finished (name_of f.inputs.order C A (statics_in T f.sources.statics) i)
    (origin_in f.inputs.order C A T M f.sources f.mode (id_section R i) (id_value R i) i)

module _ (C A T M R L O : List ℕ) (n : Numbering) where
  -- entry k
  unfoldable pub entry_in : ℕ → SymbolEntry
  entry_in zero = null_entry
  entry_in (suc k) = row_entry C A T M R n.filling (id_at L O k)

  unfoldable pub symbols_table_in : List ℕ
  symbols_table_in = gather (λ k. true) (λ k. symbol_bytes n.filling.inputs.order (entry_in k)) n.count

-- ---- what is in hand

-- place k of the order has its word, and so has the position there
pub record InOrder (L O : List ℕ) (k : ℕ) : Type 0 where
  pub place : 2 * k + 2 ≤ length O
  pub position : 2 * half_in O k + 2 ≤ length L

-- for all entries: what the entries of ids are made of, and behind entry 0 an id for each, with its row, and with a section index of two bytes
pub record SymbolsReady (C A T M R L O : List ℕ) (n : Numbering) : Type 0 where
  pub entries : EntriesReady n.filling.inputs.order C A T M n.filling.sources
  pub some : 1 ≤ n.count
  pub words : (k : ℕ) → k + 1 < n.count → InOrder L O k
  pub ids : (k : ℕ) → k + 1 < n.count → id_at L O k < id_count n.filling.sources
  pub rows : (k : ℕ) → k + 1 < n.count → ID_ROW * id_at L O k + ID_ROW ≤ length R
  pub indices : (k : ℕ) → k + 1 < n.count → (row_entry C A T M R n.filling (id_at L O k)).st_shndx < 65536
