-- The candidates of a merge (document 01, "Symbols"), by ids without a gap: C's symbols, then A's, then the statics.
use Rattle.std.specs.Prelude.{ℕ, ◌+◌, ◌-◌, Bool, true, false, List, length, ltb}
use Rattle.base_fields.specs.declared.ByteOrder.{ByteOrder}
use Rattle.base_packed.specs.Packed.{binding_of}
use Rattle.elf_records.specs.declared.symbol.SymbolEntry.{SymbolEntry}
use Rattle.elf_symbols.specs.Symbols.{symbol_count, symbol, symbol_strings, symbol_name}
use Rattle.blocks_places.specs.Places.{Place}
use Rattle.statics_table.specs.declared.Static.{Static}
use Rattle.statics_table.specs.Statics.{working_name}
use Rattle.statics_entry.specs.Entry.{nth}
use Rattle.statics_walk.specs.Walk.{statics}
use Rattle.statics_symbols.specs.Entries.{static_symbol}
use Rattle.symbols_merge.specs.Candidates.{Candidates}
use Rattle.symbols_taken.specs.Taken.{is_taken_c, is_taken_a}
use Rattle.symbols_ids.specs.Entries.{finished, entry_a}

abbrev pick_one : {X : Type 0} → Bool → X → X → X
pick_one true a b = a
pick_one false a b = b

module _ (o : ByteOrder) (C A : List ℕ) where
  -- the ids of A's symbol 0 and of the first static
  unfoldable pub first_a : ℕ
  first_a = symbol_count o C

  unfoldable pub first_static : ℕ
  first_static = first_a + symbol_count o A

  -- by where id i comes from: C's symbol i, A's symbol or a static
  unfoldable pub by_origin : {X : Type 0} → (ℕ → X) → (ℕ → X) → (ℕ → X) → ℕ → X
  by_origin ofC ofA ofStatic i = pick_one (ltb i first_a) (ofC i) (pick_one (ltb i first_static) (ofA (i - first_a)) (ofStatic (i - first_static)))

-- S are the statics
unfoldable pub name_of : ByteOrder → List ℕ → List ℕ → List Static → ℕ → List ℕ
name_of o C A S i = by_origin o C A (symbol_name o C) (symbol_name o A) (λ k. working_name C (nth S k)) i

module _ (o : ByteOrder) (C A : List ℕ) (P : List Place) (B : List ℕ) (mode : ℕ) (S : List Static) where
  -- the statics' names stand behind C's strings and A's
  unfoldable pub entry_static : ℕ → SymbolEntry
  entry_static k = static_symbol o C mode (length (symbol_strings o C) + length (symbol_strings o A)) (nth S k)

  -- the entry of id i
  unfoldable pub entry_of : ℕ → SymbolEntry
  entry_of i = finished (name_of o C A S i) (by_origin o C A (symbol o C) (entry_a o C A P B) entry_static i)

  -- statics are all taken
  unfoldable pub candidates : Candidates
  candidates = record {
    many = first_static o C A + length S;
    taken = by_origin o C A (is_taken_c o C) (is_taken_a o A) (λ k. true);
    name = name_of o C A S;
    section = λ i. (entry_of i).st_shndx;
    value = λ i. (entry_of i).st_value;
    binding = λ i. binding_of (entry_of i).st_info;
  }

-- the candidates of a merge in a mode, which puts `head` bytes in front of a static's name: its statics are those of C
unfoldable pub merge_candidates : ByteOrder → List ℕ → List ℕ → List Place → List ℕ → ℕ → ℕ → Candidates
merge_candidates o C A P B mode head = candidates o C A P B mode (statics o C mode head)
