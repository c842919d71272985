-- The symbols of an object (gABI, "Symbol Table"): the first SYMTAB, its entries and its string table.
use Rattle.std.specs.Prelude.{ℕ, ◌+◌, ◌*◌, ◌/◌, ◌≤◌, ◌<◌, Bool, List, ◌≡◌, ◌≢◌, length, eqb}
use Rattle.base_lists.specs.Ranges.{first}
use Rattle.base_lists.specs.Strings.{same, name_at}
use Rattle.base_fields.specs.declared.ByteOrder.{ByteOrder}
use Rattle.elf_records.specs.declared.symbol.SymbolEntry.{SymbolEntry}
use Rattle.elf_records.specs.Symbol.{symbol_at}
use Rattle.base_scope.specs.Elf.{SHT_SYMTAB, SHT_NOBITS}
use Rattle.base_scope.specs.Limits.{SYMBOL_LIMIT}
use Rattle.elf_readers.specs.Readers.{section_count, section, contents}
use Rattle.elf_readers.specs.Bounds.{Headed}
use Rattle.elf_symbols.specs.declared.SymbolTable.{SymbolTable}

module _ (o : ByteOrder) (F : List ℕ) where
  unfoldable pub is_symtab : ℕ → Bool
  is_symtab i = eqb (section o F i).sh_type SHT_SYMTAB

  -- the first SYMTAB; the section count where there is none
  unfoldable pub symtab : ℕ
  symtab = first is_symtab 0 (section_count o F)

  unfoldable pub symbol_count : ℕ
  symbol_count = (section o F symtab).sh_size / 16

  -- where symbol k stands
  unfoldable pub symbol_place : ℕ → ℕ
  symbol_place k = (section o F symtab).sh_offset + 16 * k

  unfoldable pub symbol : ℕ → SymbolEntry
  symbol k = symbol_at o F (symbol_place k)

  -- the section of the symbols' string table, and its bytes
  unfoldable pub strtab : ℕ
  strtab = (section o F symtab).sh_link

  unfoldable pub symbol_strings : List ℕ
  symbol_strings = contents o F strtab

  unfoldable pub symbol_name : ℕ → List ℕ
  symbol_name k = name_at symbol_strings (symbol k).st_name

  unfoldable pub is_symbol_named : List ℕ → ℕ → Bool
  is_symbol_named name k = same (symbol_name k) name

  -- the first symbol of a name; the symbol count where there is none
  unfoldable pub symbol_named : List ℕ → ℕ
  symbol_named name = first (is_symbol_named name) 0 symbol_count

-- every entry of the symbol table lies inside the file, and its string table is one of the sections and has bytes
pub record Tabled (o : ByteOrder) (F : List ℕ) : Type 0 where
  pub headed : Headed o F
  pub table : symtab o F < section_count o F
  pub strings : strtab o F < section_count o F
  pub held : (section o F (strtab o F)).sh_type ≢ SHT_NOBITS
  pub some : 1 ≤ symbol_count o F
  pub few : symbol_count o F ≤ SYMBOL_LIMIT
  pub inside : symbol_place o F (symbol_count o F) ≤ length F

-- the table as four numbers: where it starts, how many entries it has, and from where to where its strings lie
unfoldable pub symbol_table : ByteOrder → List ℕ → SymbolTable
symbol_table o F = record {
  at = symbol_place o F 0;
  count = symbol_count o F;
  names = (section o F (strtab o F)).sh_offset;
  end = (section o F (strtab o F)).sh_offset + (section o F (strtab o F)).sh_size;
}

-- those numbers in hand
pub record Table (o : ByteOrder) (F : List ℕ) (t : SymbolTable) : Type 0 where
  pub tabled : Tabled o F
  pub is : t ≡ symbol_table o F

-- the entries and the strings in hand
pub record Entries (o : ByteOrder) (F : List ℕ) (at : ℕ) (strings : List ℕ) : Type 0 where
  pub tabled : Tabled o F
  pub from : at ≡ symbol_place o F 0
  pub names : strings ≡ symbol_strings o F
