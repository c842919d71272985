-- What demand 3 reads of an object F beside its header, sections, symbols and relocation tables (crates elf_readers, elf_symbols, elf_relocations): what an entry refers to, a
-- symbol's binding, four bytes of a section, and all entries of all tables in one row (gABI, "Relocation" and "Symbol Table").
use Rattle.std.specs.Prelude.{ℕ, ◌<◌, Bool, true, ◌&&◌, List, length, get_or, take, drop, eqb}
use Rattle.base_lists.specs.Ranges.{count, select, gather}
use Rattle.base_fields.specs.declared.ByteOrder.{ByteOrder}
use Rattle.base_packed.specs.Packed.{symbol_of, kind_of, binding_of}
use Rattle.base_answers.specs.Answers.{NONE}
use Rattle.elf_readers.specs.Readers.{section_count, contents}
use Rattle.elf_symbols.specs.Symbols.{symbol}
use Rattle.elf_relocations.specs.Relocations.{is_table, relocation_count, relocation}

-- the numbers of a list are bytes: a slice's are, and what is read of them then fits its field
abbrev pub Bytes : List ℕ → Type 0
Bytes l = (i : ℕ) → get_or l i 0 < 256

-- a reference: entry `entry` of relocation table `table` of an object. The objects are those of document 01's table, C and A; NONE is the result.
pub record Reference : Type 0 where
  pub object : ℕ
  pub table : ℕ
  pub entry : ℕ

abbrev pub no_reference : Reference
no_reference = record { object = NONE; table = 0; entry = 0 }

unfoldable pub same_reference : Reference → Reference → Bool
same_reference a b = eqb a.object b.object && (eqb a.table b.table && eqb a.entry b.entry)

-- reference j of a list, and how often a list has a reference
unfoldable pub reference_at : List Reference → ℕ → Reference
reference_at l j = get_or l j no_reference

unfoldable pub times_in : List Reference → Reference → ℕ
times_in l r = count (λ j. same_reference r (reference_at l j)) (length l)

module _ (o : ByteOrder) (F : List ℕ) where
  -- entry k of table t: its symbol's index, and its kind
  unfoldable pub referred_symbol : ℕ → ℕ → ℕ
  referred_symbol t k = symbol_of (relocation o F t k).r_info

  unfoldable pub reference_kind : ℕ → ℕ → ℕ
  reference_kind t k = kind_of (relocation o F t k).r_info

  unfoldable pub symbol_binding : ℕ → ℕ
  symbol_binding k = binding_of (symbol o F k).st_info

  -- the four bytes at x of section i: the addend of an entry without one of its own
  unfoldable pub word_at : ℕ → ℕ → List ℕ
  word_at i x = take 4 (drop x (contents o F i))

  -- the entries of table t; of all tables, section by section
  unfoldable pub entries_at : ℕ → List Reference
  entries_at t = select (λ k. true) (λ k. record { object = NONE; table = t; entry = k }) (relocation_count o F t)

  unfoldable pub all_entries : List Reference
  all_entries = gather (is_table o F) entries_at (section_count o F)
