-- Of the code, not of document 01: the entry of an id by where it comes from, over what is in hand. C and A are the objects, T the table of statics, `marks` the words of the
-- glabels, s how far each goes. proofs/Ids.antt says that it is the entry of the crate symbols_ids where section and value are that entry's.
use Rattle.std.specs.Prelude.{ℕ, ◌+◌, ◌-◌, ◌*◌, ◌≤◌, ◌<◌, List, length}
use Rattle.base_fields.specs.declared.ByteOrder.{ByteOrder}
use Rattle.base_scope.specs.Limits.{FILE_LIMIT, SYMBOL_LIMIT, STATIC_LIMIT, WRITTEN_LIMIT}
use Rattle.elf_records.specs.declared.symbol.SymbolEntry.{SymbolEntry}
use Rattle.elf_symbols.specs.declared.SymbolTable.{SymbolTable}
use Rattle.elf_symbols.specs.Symbols.{symbol_count, symbol}
use Rattle.statics_table.specs.Table.{static_in}
use Rattle.statics_symbols.specs.Entries.{symbol_of_static}
use Rattle.symbols_names.specs.of_symbols_ids.Ids.{by_origin}
use Rattle.symbols_names.specs.declared.Sources.{Sources}
use Rattle.symbols_names.specs.Names.{SourcesRead}
use Rattle.symbols_entries.specs.Entries.{assembled_in}

-- how many bytes the strings of a table have
abbrev pub strings_in : SymbolTable → ℕ
strings_in t = t.end - t.names

-- the entry of id i before it is finished; the names of A and of the statics stand behind C's strings
unfoldable pub origin_in : ByteOrder → List ℕ → List ℕ → List ℕ → List ℕ → Sources → ℕ → ℕ → ℕ → ℕ → SymbolEntry
origin_in o C A T marks s mode section value i =
    by_origin o C A
    (symbol o C)
    (assembled_in o A (strings_in s.compiled) section value marks)
    (λ k. symbol_of_static section mode (strings_in s.compiled + strings_in s.assembled) (static_in T k))
    i

-- what is in hand for the entries: the names, a word for each symbol of A, and names that fit the string table of the result (proofs/Ids.antt, `name_low` and `offset_low`)
pub record EntriesReady (o : ByteOrder) (C A T marks : List ℕ) (s : Sources) : Type 0 where
  pub names : SourcesRead o C A T s
  pub own : length C ≤ FILE_LIMIT
  pub other : length A ≤ FILE_LIMIT
  pub words : 4 * SYMBOL_LIMIT ≤ length marks
  pub starts : (k : ℕ) → k < symbol_count o A → (symbol o A k).st_name < FILE_LIMIT
  pub offsets : (k : ℕ) → k < s.statics → (static_in T k).offset ≤ WRITTEN_LIMIT * STATIC_LIMIT
