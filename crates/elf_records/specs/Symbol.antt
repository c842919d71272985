-- Elf32_Sym (gABI, "Symbol Table"): 16 bytes.
use Rattle.std.specs.Prelude.{ℕ, List, [], ◌∷◌, get_or}
use Rattle.base_fields.specs.declared.ByteOrder.{ByteOrder}
use Rattle.base_fields.specs.Layouts.{fields_at, record_bytes}
use Rattle.elf_records.specs.declared.symbol.SymbolEntry.{SymbolEntry}

unfoldable pub symbol_layout : List ℕ
symbol_layout = 4 ∷ 4 ∷ 4 ∷ 1 ∷ 1 ∷ 2 ∷ []

unfoldable pub symbol_from : List ℕ → SymbolEntry
symbol_from v = record {
  st_name = get_or v 0 0;
  st_value = get_or v 1 0;
  st_size = get_or v 2 0;
  st_info = get_or v 3 0;
  st_other = get_or v 4 0;
  st_shndx = get_or v 5 0;
}

unfoldable pub symbol_fields : SymbolEntry → List ℕ
symbol_fields s = s.st_name ∷ s.st_value ∷ s.st_size ∷ s.st_info ∷ s.st_other ∷ s.st_shndx ∷ []

-- the entry at o, and the bytes of an entry
unfoldable pub symbol_at : ByteOrder → List ℕ → ℕ → SymbolEntry
symbol_at order l o = symbol_from (fields_at order symbol_layout l o)

unfoldable pub symbol_bytes : ByteOrder → SymbolEntry → List ℕ
symbol_bytes order s = record_bytes order symbol_layout (symbol_fields s)
