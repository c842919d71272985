-- A section index of the result has two bytes: it is that of a symbol of an accepted object, or that of a section of C. Assumes nothing.
use Prim.Native.Nat.{ℕ, ◌+◌, ◌-◌, ◌≤◌, ◌<◌}
use mathlib.Core.Path.{◌≡◌}
use mathlib.Core.Bool.{true, ◌&&◌}
use mathlib.Core.List.{List}
use native.Mathlib.Omega.{arith}
use lib.Dec.{ltb, leb}
use borrow.Author.Tests.{ltb-true}
use Rattle.base_lists.proofs.Ranges.{by-test, by-lt, and_parts, first_high}
use Rattle.base_fields.specs.declared.ByteOrder.{ByteOrder}
use Rattle.base_scope.specs.Elf.{SHN_LORESERVE, SHN_XINDEX}
use Rattle.base_scope.specs.Limits.{SECTION_LIMIT}
use Rattle.elf_records.specs.declared.symbol.SymbolEntry.{SymbolEntry}
use Rattle.elf_readers.specs.Readers.{section_count, section_named, coded_section}
use Rattle.elf_symbols.specs.Symbols.{symbol_count, symbol}
use Rattle.elf_symbol_faults.specs.Faults.{index_sound}
use Rattle.elf_check.specs.Sound.{Sound}
use Rattle.blocks_places.specs.Places.{Place}
use Rattle.statics_table.specs.declared.Static.{Static}
use Rattle.statics_symbols.specs.Entries.{symbol_of_static, static_symbol}
use Rattle.symbols_entries.specs.of_symbols_ids.Entries.{finished, is_placed_a, section_a, entry_a}
use Rattle.symbols_entries.specs.of_symbols_ids.Ids.{by_origin, entry_static, entry_of}
use Rattle.symbols_chain.proofs.of_symbols_fill.Origins.{origin_own, origin_other, origin_static}

sound_low : (count x : ℕ) → count ≤ SECTION_LIMIT → index_sound count x ≡ true → x < 65536
unfolding index_sound
sound_low count x few e = by-test (ltb x count)
    (λ t. omega (arith, ltb-true x count t))
    (λ f.
    let g : (leb SHN_LORESERVE x && ltb x SHN_XINDEX) ≡ true = rw f at e in
    omega (arith, ltb-true x SHN_XINDEX (and_parts (leb SHN_LORESERVE x) (ltb x SHN_XINDEX) g).1))

-- those of a symbol, and of a section of a code
symbol_low : (o : ByteOrder) (F : List ℕ) → Sound o F → (k : ℕ) → k < symbol_count o F → (symbol o F k).st_shndx < 65536
symbol_low o F s k h = sound_low (section_count o F) (symbol o F k).st_shndx s.named.headed.few (s.indices k h)

coded_le : (o : ByteOrder) (F : List ℕ) (c : ℕ) → coded_section o F c ≤ section_count o F
unfolding coded_section section_named
coded_le o F c = first_high _ 0 (section_count o F) (omega arith)

coded_low : (o : ByteOrder) (F : List ℕ) → Sound o F → (c : ℕ) → coded_section o F c < 65536
coded_low o F s c = omega (arith, coded_le o F c, s.named.headed.few)

module _ (o : ByteOrder) (C A : List ℕ) (P : List Place) (B : List ℕ) (mode : ℕ) (S : List Static) (own : Sound o C) (other : Sound o A) where
  section_low : (k : ℕ) → k < symbol_count o A → section_a o C A P B k < 65536
  unfolding section_a
  section_low k h = by-test (is_placed_a o C A P B k) (λ t. rw t (coded_low o C own _)) (λ f. rw f (symbol_low o A other k h))

  entry_a_low : (k : ℕ) → k < symbol_count o A → (entry_a o C A P B k).st_shndx < 65536
  unfolding entry_a
  entry_a_low k h = section_low k h

  static_low : (k : ℕ) → (entry_static o C A P B mode S k).st_shndx < 65536
  unfolding entry_static static_symbol symbol_of_static
  static_low k = coded_low o C own _

  abbrev whole : ℕ → SymbolEntry
  whole i = by_origin o C A (symbol o C) (entry_a o C A P B) (entry_static o C A P B mode S) i

  module _ (n m : ℕ) (mine : n ≡ symbol_count o C) (theirs : m ≡ symbol_count o A) (i : ℕ) where
    whole_low : (whole i).st_shndx < 65536
    whole_low = by-lt i n
        (λ l. rw (origin_own o C A n m mine theirs i SymbolEntry (symbol o C) (entry_a o C A P B) (entry_static o C A P B mode S) l) (symbol_low o C own i (omega (arith, mine))))
        (λ l. by-lt i (n + m)
        (λ u. rw (origin_other o C A n m mine theirs i SymbolEntry (symbol o C) (entry_a o C A P B) (entry_static o C A P B mode S) l u) (entry_a_low (i - n) (omega (arith, theirs))))
        (λ u. rw (origin_static o C A n m mine theirs i SymbolEntry (symbol o C) (entry_a o C A P B) (entry_static o C A P B mode S) u) (static_low (i - (n + m)))))

    pub index_low : (entry_of o C A P B mode S i).st_shndx < 65536
    unfolding entry_of finished
    index_low = whole_low
