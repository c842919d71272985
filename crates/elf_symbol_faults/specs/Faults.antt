-- Refusal 5 (document 01, "Symbols"): the lowest symbol that breaks one of its clauses; 0 where the whole table does.
use Rattle.std.specs.Prelude.{ℕ, Bool, true, false, cond, not, ◌&&◌, ◌||◌, List, ◌≡◌, length, eqb, ltb, leb, Option}
use Rattle.base_lists.specs.Ranges.{first, past_last}
use Rattle.base_lists.specs.Strings.{has_end, zero_at}
use Rattle.base_fields.specs.declared.ByteOrder.{ByteOrder}
use Rattle.elf_records.specs.declared.symbol.SymbolEntry.{SymbolEntry}
use Rattle.base_scope.specs.Refusals.{expect, found_below}
use Rattle.base_scope.specs.Limits.{SYMBOL_LIMIT}
use Rattle.base_scope.specs.Elf.{SHN_LORESERVE, SHN_XINDEX}
use Rattle.elf_readers.specs.Readers.{section_count, section, is_strtab}
use Rattle.elf_symbols.specs.Symbols.{symtab, strtab, symbol_count, symbol, symbol_strings, symbol_name, Entries}

-- every field is zero
unfoldable pub zero_entry : SymbolEntry → Bool
zero_entry s = eqb s.st_name 0 && (eqb s.st_value 0 && (eqb s.st_size 0 && (eqb s.st_info 0 && (eqb s.st_other 0 && eqb s.st_shndx 0))))

-- a section index exists, or is FF00 to FFFE hex
unfoldable pub index_sound : ℕ → ℕ → Bool
index_sound count x = ltb x count || (leb SHN_LORESERVE x && ltb x SHN_XINDEX)

module _ (o : ByteOrder) (F : List ℕ) where
  -- a SYMTAB of entry 16 is there, linked to a string table, with 1 to 4,096 entries
  unfoldable pub symbol_table_sound : Bool
  symbol_table_sound =
      ltb (symtab o F) (section_count o F)
      && (eqb (section o F (symtab o F)).sh_entsize 16
      && (is_strtab o F (strtab o F)
      && (leb 1 (symbol_count o F) && leb (symbol_count o F) SYMBOL_LIMIT)))

  -- entry 0 is zeros with an empty name
  unfoldable pub null_symbol_sound : ℕ → Bool
  null_symbol_sound k = cond (eqb k 0) (zero_entry (symbol o F k) && eqb (length (symbol_name o F k)) 0) true

  unfoldable pub symbol_sound : ℕ → Bool
  symbol_sound k = has_end (symbol_strings o F) (symbol o F k).st_name && (null_symbol_sound k && index_sound (section_count o F) (symbol o F k).st_shndx)

  unfoldable pub bad_symbol : ℕ → Bool
  bad_symbol k = not (symbol_sound k)

  unfoldable pub symbol_fault : Option ℕ
  symbol_fault = expect symbol_table_sound 0 (found_below (symbol_count o F) (first bad_symbol 0 (symbol_count o F)))

-- while symbols are checked: the entries in hand, one past the last zero byte of their strings, and the section count
pub record Checking (o : ByteOrder) (F : List ℕ) (at : ℕ) (strings : List ℕ) (ends sections : ℕ) : Type 0 where
  pub entries : Entries o F at strings
  pub past : ends ≡ past_last (zero_at strings) (length strings)
  pub known : sections ≡ section_count o F
