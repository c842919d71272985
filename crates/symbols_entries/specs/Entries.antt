-- Of the code, not of document 01: the entries of the result over what is in hand: a name's flag, a glabel's word, and the section and the value that the rows of the ids have.
-- proofs/Entries.antt says that these are the entries of the crate symbols_ids.
use Rattle.std.specs.Prelude.{ℕ, ◌+◌, ◌-◌, ◌*◌, ◌/◌, ◌%◌, ◌≤◌, ◌<◌, Bool, cond, List, length, eqb}
use Rattle.base_fields.specs.declared.ByteOrder.{ByteOrder}
use Rattle.base_scope.specs.Elf.{STT_OBJECT, STT_FUNC}
use Rattle.base_packed.specs.Packed.{binding_of, type_of, symbol_info, visibility_of}
use Rattle.elf_records.specs.declared.symbol.SymbolEntry.{SymbolEntry}
use Rattle.elf_symbols.specs.declared.SymbolTable.{SymbolTable}
use Rattle.elf_symbols.specs.Symbols.{symbol_count, symbol, Table}
use Rattle.symbols_names.specs.of_symbols_taken.Taken.{is_placed_in}
use Rattle.symbols_glabels.specs.Words.{mark_in}

-- `finished`, by whether the name is `_gp_disp`
unfoldable pub finished_as : Bool → SymbolEntry → SymbolEntry
finished_as gp e = record {
  st_name = e.st_name;
  st_value = e.st_value;
  st_size = e.st_size;
  st_info = symbol_info (binding_of e.st_info) (cond gp STT_OBJECT (type_of e.st_info));
  st_other = visibility_of e.st_other;
  st_shndx = e.st_shndx;
}

-- type and size by a word of the glabels' table; those of the word 0 are the symbol's own
unfoldable pub type_by : ℕ → ℕ → ℕ
type_by word kind = cond (eqb (word % 2) 1) STT_FUNC kind

unfoldable pub size_by : ℕ → ℕ → ℕ
size_by word own = cond (eqb (word % 2) 1) (cond (eqb (word / 2) 0) own (word / 2 - 1)) own

-- the word of symbol k, whose section index is x: glabels count in sections only
unfoldable pub word_by : List ℕ → ℕ → ℕ → ℕ
word_by marks x k = cond (is_placed_in x) (mark_in marks k) 0

-- an entry of A moved to a section and a value, its name behind `base`
unfoldable pub moved_entry : ℕ → ℕ → ℕ → ℕ → SymbolEntry → SymbolEntry
moved_entry base section value word e = record {
  st_name = e.st_name + base;
  st_value = value;
  st_size = size_by word e.st_size;
  st_info = symbol_info (binding_of e.st_info) (type_by word (type_of e.st_info));
  st_other = e.st_other;
  st_shndx = section;
}

-- A's symbol k
unfoldable pub assembled_in : ByteOrder → List ℕ → ℕ → ℕ → ℕ → List ℕ → ℕ → SymbolEntry
assembled_in o A base section value marks k = moved_entry base section value (word_by marks (symbol o A k).st_shndx k) (symbol o A k)

-- A's symbol k in hand, with its word; its name can move behind `base` (proofs/Ids.antt, `name_low`)
pub record AtAssembled (o : ByteOrder) (A : List ℕ) (t : SymbolTable) (base : ℕ) (marks : List ℕ) (k : ℕ) : Type 0 where
  pub symbols : Table o A t
  pub below : k < symbol_count o A
  pub word : 4 * k + 4 ≤ length marks
  pub name : (symbol o A k).st_name + base < 4294967296
