-- The symbol of a static of the compiled object C (document 01, "Statics"; gABI, "Symbol Table"): its written name stands so far behind `base` in the string
-- table; size and visibility are 0, and its section is C's of its code.
use Rattle.std.specs.Prelude.{ℕ, ◌+◌, List}
use Rattle.base_fields.specs.declared.ByteOrder.{ByteOrder}
use Rattle.elf_records.specs.declared.symbol.SymbolEntry.{SymbolEntry}
use Rattle.base_packed.specs.Packed.{symbol_info}
use Rattle.elf_readers.specs.Readers.{coded_section}
use Rattle.statics_table.specs.declared.Static.{Static}
use Rattle.statics_table.specs.Statics.{static_type, static_binding}

-- its symbol, with the index of its section
unfoldable pub symbol_of_static : ℕ → ℕ → ℕ → Static → SymbolEntry
symbol_of_static section mode base s = record {
  st_name = base + s.offset;
  st_value = s.value;
  st_size = 0;
  st_info = symbol_info (static_binding mode) (static_type s);
  st_other = 0;
  st_shndx = section;
}

unfoldable pub static_symbol : ByteOrder → List ℕ → ℕ → ℕ → Static → SymbolEntry
static_symbol o C mode base s = symbol_of_static (coded_section o C s.code) mode base s
