-- Laws of the symbols: what the symbol table's header, or one entry in hand, gives of the definitions in specs/Symbols.antt. Entries of 16 bytes
-- follow each other, so the last one's end bounds every one. Assumes nothing.
use mathlib.Core.Path.{◌≡◌, refl, sym, ap, ◌∙◌}
use mathlib.Core.List.{List}
use Prim.Native.Nat.{ℕ, ◌+◌, ◌-◌, ◌*◌, ◌/◌, ◌≤◌, ◌<◌}
use native.Mathlib.Omega.{arith}
use lib.ListN.{length, take, drop}
use lib.Dec.{eqb}
use borrow.Author.Tests.{eqb-true}
use Rattle.base_lists.specs.Ranges.{first}
use Rattle.base_lists.specs.Strings.{same, name_at}
use Rattle.base_lists.proofs.Ranges.{first_is, first_high}
use Rattle.base_fields.specs.declared.ByteOrder.{ByteOrder}
use Rattle.elf_records.specs.declared.section.SectionHeader.{SectionHeader}
use Rattle.elf_records.specs.declared.symbol.SymbolEntry.{SymbolEntry}
use Rattle.elf_records.specs.Symbol.{symbol_at}
use Rattle.base_scope.specs.Elf.{SHT_SYMTAB}
use Rattle.elf_readers.specs.Readers.{section_count, section, contents}
use Rattle.elf_readers.proofs.Readers.{contents_part}
use Rattle.elf_symbols.specs.declared.SymbolTable.{SymbolTable}
use Rattle.elf_symbols.specs.Symbols.{is_symtab, symtab, symbol_count, symbol_place, symbol, strtab, symbol_strings, symbol_name, is_symbol_named, symbol_named, symbol_table, Tabled, Table, Entries}

module _ (o : ByteOrder) (F : List ℕ) where
  -- symbol k stands 16 bytes further for each symbol in front of it
  pub symbol_place_lem : (k : ℕ) → symbol_place o F k ≡ symbol_place o F 0 + 16 * k
  unfolding symbol_place
  symbol_place_lem k = omega arith

  -- every entry lies inside the file
  pub symbol_inside : Tabled o F → (k : ℕ) → k < symbol_count o F → symbol_place o F 0 + 16 * k + 16 ≤ length F
  symbol_inside s k l = omega (arith, s.inside, symbol_place_lem (symbol_count o F))

  -- an entry read where symbol k stands
  pub symbol_read : (base k : ℕ) → base ≡ symbol_place o F 0 → symbol_at o F (base + 16 * k) ≡ symbol o F k
  unfolding symbol
  symbol_read base k e = rw (e, symbol_place_lem k)

  -- a section in hand is a symbol table
  pub symtab_read : (i kind : ℕ) → kind ≡ (section o F i).sh_type → eqb kind SHT_SYMTAB ≡ is_symtab o F i
  unfolding is_symtab
  symtab_read i kind is = rw is

  -- the search for the symbol table, from the equation of its ends
  pub symtab_found : (n k : ℕ) → n ≡ section_count o F → first (is_symtab o F) 0 n ≡ k → k ≡ symtab o F
  unfolding symtab
  symtab_found n k e f = rw e at (sym f)

  pub symtab_high : symtab o F ≤ section_count o F
  unfolding symtab
  symtab_high = first_high (is_symtab o F) 0 (section_count o F) (omega arith)

  -- the symbol table is one, where there is any
  pub symtab_type : symtab o F < section_count o F → (section o F (symtab o F)).sh_type ≡ SHT_SYMTAB
  unfolding symtab is_symtab
  symtab_type l = eqb-true _ _ ((first_is (is_symtab o F) 0 (section_count o F) (omega arith)).here l)

  -- the search for a name, from the equation of its ends
  pub named_found : (name : List ℕ) (n k : ℕ) → n ≡ symbol_count o F → first (is_symbol_named o F name) 0 n ≡ k → k ≡ symbol_named o F name
  unfolding symbol_named
  named_found name n k e f = rw e at (sym f)

-- the symbol table's header in hand
module _ (o : ByteOrder) (F : List ℕ) (t : ℕ) (h : SectionHeader) (found : t ≡ symtab o F) (is : h ≡ section o F t) where
  pub start_read : h.sh_offset ≡ symbol_place o F 0
  unfolding symbol_place
  start_read = rw (is, found) (omega arith)

  pub count_read : h.sh_size / 16 ≡ symbol_count o F
  unfolding symbol_count
  count_read = rw (is, found)

  pub link_read : h.sh_link ≡ strtab o F
  unfolding strtab
  link_read = rw (is, found)

  -- and that of its strings
  pub table_read : (s : SectionHeader) → s ≡ section o F h.sh_link
      → record { at = h.sh_offset; count = h.sh_size / 16; names = s.sh_offset; end = s.sh_offset + s.sh_size } ≡ symbol_table o F
  unfolding symbol_table
  table_read s e =
      let l : s ≡ section o F (strtab o F) = e ∙ ap (section o F) link_read in
      rw (start_read, count_read, l)

-- the numbers of a table in hand
module _ (o : ByteOrder) (F : List ℕ) (t : SymbolTable) (x : Table o F t) where
  pub table_at : t.at ≡ symbol_place o F 0
  unfolding symbol_table
  table_at = ap (λ (s : SymbolTable). s.at) x.is

  pub table_count : t.count ≡ symbol_count o F
  unfolding symbol_table
  table_count = ap (λ (s : SymbolTable). s.count) x.is

  names_at : t.names ≡ (section o F (strtab o F)).sh_offset
  unfolding symbol_table
  names_at = ap (λ (s : SymbolTable). s.names) x.is

  names_end : t.end ≡ (section o F (strtab o F)).sh_offset + (section o F (strtab o F)).sh_size
  unfolding symbol_table
  names_end = ap (λ (s : SymbolTable). s.end) x.is

  -- its strings lie inside the file
  pub names_up : t.names ≤ t.end
  names_up = omega (arith, names_at, names_end)

  pub names_inside : t.end ≤ length F
  names_inside = omega (arith, names_end, x.tabled.headed.held (strtab o F) x.tabled.strings x.tabled.held)

  pub names_are : (l : List ℕ) → l ≡ take (t.end - t.names) (drop t.names F) → l ≡ symbol_strings o F
  unfolding symbol_strings
  names_are l e =
      e ∙ rw (names_end, names_at) (contents_part o F (strtab o F) (section o F (strtab o F)) refl x.tabled.held)

  pub entries_in : (at : ℕ) (l : List ℕ) → at ≡ t.at → l ≡ take (t.end - t.names) (drop t.names F) → Entries o F at l
  entries_in at l e is = record { tabled = x.tabled; from = e ∙ table_at; names = names_are l is }

-- an entry and the symbols' strings in hand
module _ (o : ByteOrder) (F : List ℕ) (k : ℕ) (s : SymbolEntry) (t : List ℕ) (is : s ≡ symbol o F k) (strings : t ≡ symbol_strings o F) where
  pub name_read : name_at t s.st_name ≡ symbol_name o F k
  unfolding symbol_name
  name_read = rw (is, strings)

  pub named_read : (name : List ℕ) → same (name_at t s.st_name) name ≡ is_symbol_named o F name k
  unfolding is_symbol_named
  named_read name = rw name_read
