-- The names of the result's symbols, read by the gABI's readers: each entry's is the one that its candidate is written with. Assumes nothing.
use Rattle.std.specs.Prelude.{None}
use Prim.Native.Nat.{ℕ, zero, suc, ◌+◌, ◌-◌, ◌≤◌, ◌<◌}
use mathlib.Core.Path.{◌≡◌, refl, sym, ap, ◌∙◌}
use mathlib.Core.Bool.{true, false}
use mathlib.Core.List.{List, []}
use native.Mathlib.Omega.{arith}
use lib.ListN.{length}
use lib.Dec.{ltb}
use borrow.Author.Tests.{lt-ltb, le-ltb}
use Rattle.base_lists.specs.Strings.{name_at, has_end}
use Rattle.base_lists.proofs.Ranges.{by-lt}
use Rattle.base_fields.specs.declared.ByteOrder.{ByteOrder}
use Rattle.elf_records.specs.declared.symbol.SymbolEntry.{SymbolEntry}
use Rattle.elf_readers.specs.Readers.{header, is_strtab}
use Rattle.elf_symbols.specs.Symbols.{symbol_count, symbol, symbol_strings, symbol_name}
use Rattle.elf_symbol_faults.proofs.Faults.{zero_fields}
use Rattle.elf_check.specs.Sound.{Sound}
use Rattle.blocks_places.specs.Places.{Place}
use Rattle.statics_table.specs.declared.Static.{Static}
use Rattle.statics_table.specs.Statics.{name_head, written_name}
use Rattle.statics_entry.specs.Entry.{nth}
use Rattle.statics_walk.specs.Walk.{statics}
use Rattle.statics_walk.specs.Sound.{StaticsSound}
use Rattle.statics_walk.proofs.Sound.{statics_sound}
use Rattle.statics_symbols.specs.Entries.{symbol_of_static, static_symbol}
use Rattle.carry_entries.specs.of_symbols_ids.Entries.{finished, entry_a}
use Rattle.carry_entries.specs.of_symbols_taken.Taken.{is_taken_c, is_taken_a}
use Rattle.symbols_merge.specs.Candidates.{Candidates}
use Rattle.symbols_merge.specs.Merged.{merged_count, merged_at}
use Rattle.symbols_merge.proofs.Merged.{merged_taken}
use Rattle.carry_entries.specs.of_symbols_ids.Ids.{first_a, first_static, by_origin, entry_static, entry_of, candidates, merge_candidates}
use Rattle.carry_entries.specs.of_symbols_ids.Table.{null_entry, result_entry}
use Rattle.write_strings.specs.Strings.{result_strings}
use Rattle.write_strings.proofs.Names.{Full, name_of_c, end_of_c, name_of_a, end_of_a, name_of_static, end_of_static}
use Rattle.write_object.specs.Object.{moved_finding}
use Rattle.write_plan.specs.Plan.{merged_plan, merged_object}
use Rattle.write_plan.specs.Names.{name_written}
use Rattle.write_plan.proofs.Symbols.{symbol_name_merged}

-- a name that stands at a place of a string table, with its end
pub record NameThere (l : List ℕ) (at : ℕ) (name : List ℕ) : Type 0 where
  pub is : name_at l at ≡ name
  pub ended : has_end l at ≡ true

module _ (o : ByteOrder) (C A : List ℕ) (P : List Place) (B : List ℕ) (mode : ℕ) (path : List ℕ) (S : List Static) where
  abbrev R : List ℕ
  R = result_strings o C A mode path S

  abbrev at : ℕ → ℕ
  at i = (entry_of o C A P B mode S i).st_name

  first_is : first_a o C A ≡ symbol_count o C
  unfolding first_a
  first_is = refl

  statics_from : first_static o C A ≡ symbol_count o C + symbol_count o A
  unfolding first_static first_a
  statics_from = refl

  there : (i x : ℕ) (name : List ℕ) → at i ≡ x → name_written o C A mode path S i ≡ name → name_at R x ≡ name → has_end R x ≡ true
      → NameThere R (at i) (name_written o C A mode path S i)
  there i x name e w n z = record { is = ap (name_at R) e ∙ n ∙ sym w; ended = ap (has_end R) e ∙ z }

  -- a symbol of C
  module _ (soundC : Sound o C) (i : ℕ) (h : i < symbol_count o C) where
    of_c : ltb i (first_a o C A) ≡ true
    unfolding first_a
    of_c = lt-ltb i (symbol_count o C) h

    origin_c : {X : Type 0} (f g k : ℕ → X) → by_origin o C A f g k i ≡ f i
    unfolding by_origin
    origin_c f g k = rw of_c

    at_c : at i ≡ (symbol o C i).st_name
    unfolding entry_of finished
    at_c = ap (λ (e : SymbolEntry). e.st_name) (origin_c (symbol o C) (entry_a o C A P B) (entry_static o C A P B mode S))

    written_c : name_written o C A mode path S i ≡ name_at (symbol_strings o C) (symbol o C i).st_name
    unfolding name_written symbol_name
    written_c = origin_c (symbol_name o C) (symbol_name o A) (λ k. written_name mode path C (nth S k))

    pub named_c : NameThere R (at i) (name_written o C A mode path S i)
    named_c =
        there i (symbol o C i).st_name _ at_c written_c (name_of_c o C A mode path S (symbol o C i).st_name (soundC.symbol_ends i h))
        (end_of_c o C A mode path S (symbol o C i).st_name (soundC.symbol_ends i h))

  -- one of A
  module _ (soundA : Sound o A) (i : ℕ) (l : symbol_count o C ≤ i) (h : i < symbol_count o C + symbol_count o A) where
    abbrev j : ℕ
    j = i - symbol_count o C

    below : j < symbol_count o A
    below = omega (arith, l, h)

    not_c : ltb i (first_a o C A) ≡ false
    unfolding first_a
    not_c = le-ltb i (symbol_count o C) l

    of_a : ltb i (first_static o C A) ≡ true
    unfolding first_static first_a
    of_a = lt-ltb i (symbol_count o C + symbol_count o A) h

    origin_a : {X : Type 0} (f g k : ℕ → X) → by_origin o C A f g k i ≡ g j
    unfolding by_origin
    origin_a f g k = rw (not_c, of_a) (ap (λ (x : ℕ). g (i - x)) first_is)

    at_a : at i ≡ length (symbol_strings o C) + (symbol o A j).st_name
    unfolding entry_of finished entry_a
    at_a = ap (λ (e : SymbolEntry). e.st_name) (origin_a (symbol o C) (entry_a o C A P B) (entry_static o C A P B mode S)) ∙ omega arith

    written_a : name_written o C A mode path S i ≡ name_at (symbol_strings o A) (symbol o A j).st_name
    unfolding name_written symbol_name
    written_a = origin_a (symbol_name o C) (symbol_name o A) (λ k. written_name mode path C (nth S k))

    pub named_a : NameThere R (at i) (name_written o C A mode path S i)
    named_a =
        there i (length (symbol_strings o C) + (symbol o A j).st_name) _ at_a written_a (name_of_a o C A mode path S (symbol o A j).st_name (soundA.symbol_ends j below))
        (end_of_a o C A mode path S (symbol o A j).st_name (soundA.symbol_ends j below))

  -- a static
  module _ (sound : StaticsSound o C (length (name_head mode path)) S) (full : Full path) (i : ℕ) (l : symbol_count o C + symbol_count o A ≤ i)
      (h : i < symbol_count o C + symbol_count o A + length S) where
    abbrev s : ℕ
    s = i - (symbol_count o C + symbol_count o A)

    below_s : s < length S
    below_s = omega (arith, l, h)

    past_c : ltb i (first_a o C A) ≡ false
    unfolding first_a
    past_c = le-ltb i (symbol_count o C) (omega (arith, l))

    past_a : ltb i (first_static o C A) ≡ false
    unfolding first_static first_a
    past_a = le-ltb i (symbol_count o C + symbol_count o A) l

    origin_s : {X : Type 0} (f g k : ℕ → X) → by_origin o C A f g k i ≡ k s
    unfolding by_origin
    origin_s f g k = rw (past_c, past_a) (ap (λ (x : ℕ). k (i - x)) statics_from)

    at_s : at i ≡ length (symbol_strings o C) + (length (symbol_strings o A) + (nth S s).offset)
    unfolding entry_of finished entry_static static_symbol symbol_of_static
    at_s = ap (λ (e : SymbolEntry). e.st_name) (origin_s (symbol o C) (entry_a o C A P B) (entry_static o C A P B mode S)) ∙ omega arith

    written_s : name_written o C A mode path S i ≡ written_name mode path C (nth S s)
    unfolding name_written
    written_s = origin_s (symbol_name o C) (symbol_name o A) (λ k. written_name mode path C (nth S k))

    pub named_s : NameThere R (at i) (name_written o C A mode path S i)
    named_s =
        there i (length (symbol_strings o C) + (length (symbol_strings o A) + (nth S s).offset)) _ at_s written_s (name_of_static o C A mode path S sound full s below_s)
        (end_of_static o C A mode path S sound full s below_s)

  -- each of them
  pub named_all : Sound o C → Sound o A → StaticsSound o C (length (name_head mode path)) S → Full path → (i : ℕ) → i < symbol_count o C + symbol_count o A + length S
      → NameThere R (at i) (name_written o C A mode path S i)
  named_all soundC soundA sound full i h = by-lt i (symbol_count o C)
      (named_c soundC i)
      (λ l. by-lt i (symbol_count o C + symbol_count o A)
      (named_a soundA i l)
      (λ m. named_s sound full i m h))

-- ---- in the merged object

module _ (o : ByteOrder) (C A : List ℕ) (P : List Place) (B path : List ℕ) (flag mode : ℕ) where
  abbrev symbols : Candidates
  symbols = merge_candidates o C A P B mode (length (name_head mode path))

  abbrev listed_statics : List Static
  listed_statics = statics o C mode (length (name_head mode path))

  -- entry k, from 1 on, is that of a candidate that is taken
  pub entry_at : (k : ℕ) → 1 ≤ k → result_entry o C A P B mode listed_statics k ≡ entry_of o C A P B mode listed_statics (merged_at symbols k)
  unfolding result_entry merge_candidates
  entry_at zero l = absurd (omega arith)
  entry_at (suc k) l = refl

  pub candidate_at : (k : ℕ) → 1 ≤ k → k < merged_count symbols
      → (merged_at symbols k < symbol_count o C + symbol_count o A + length listed_statics) × (by_origin o C A (is_taken_c o C) (is_taken_a o A) (λ j. true) (merged_at symbols k) ≡ true)
  unfolding merge_candidates candidates first_static first_a
  candidate_at k l h = merged_taken symbols k l h

  pub name_merged : moved_finding (merged_plan o C A P B path flag mode) o ≡ None → Sound o C → is_strtab o C (header o C).e_shstrndx ≡ true → Sound o A → Full path
      → (k : ℕ) → 1 ≤ k → k < merged_count symbols
      → symbol_name o (merged_object o C A P B path flag mode) k ≡ name_written o C A mode path listed_statics (merged_at symbols k)
  name_merged clear sound names soundA full k l h =
      let n = named_all o C A P B mode path listed_statics sound soundA (statics_sound o C mode (length (name_head mode path))) full (merged_at symbols k) (candidate_at k l h).0 in
      let e : (result_entry o C A P B mode listed_statics k).st_name ≡ (entry_of o C A P B mode listed_statics (merged_at symbols k)).st_name = ap (λ (x : SymbolEntry). x.st_name) (entry_at k l) in
      symbol_name_merged o C A P B path flag mode clear sound names k h (ap (has_end (result_strings o C A mode path listed_statics)) e ∙ n.ended)
      ∙ ap (name_at (result_strings o C A mode path listed_statics)) e
      ∙ n.is

  -- entry 0 is zeros, and its name is the empty one of C's
  module _ (sound : Sound o C) where
    null_starts : (symbol o C 0).st_name ≡ 0
    null_starts = (zero_fields (symbol o C 0) sound.null).name

    pub null_ended : has_end (symbol_strings o C) 0 ≡ true
    null_ended = ap (has_end (symbol_strings o C)) (sym null_starts) ∙ sound.symbol_ends 0 sound.tabled.some

    pub null_is : result_entry o C A P B mode listed_statics 0 ≡ null_entry
    unfolding result_entry
    null_is = refl

    null_at : (result_entry o C A P B mode listed_statics 0).st_name ≡ 0
    unfolding null_entry
    null_at = ap (λ (x : SymbolEntry). x.st_name) null_is

    pub null_end : has_end (result_strings o C A mode path listed_statics) (result_entry o C A P B mode listed_statics 0).st_name ≡ true
    null_end = ap (has_end (result_strings o C A mode path listed_statics)) null_at ∙ end_of_c o C A mode path listed_statics 0 null_ended

    pub null_unnamed : moved_finding (merged_plan o C A P B path flag mode) o ≡ None → is_strtab o C (header o C).e_shstrndx ≡ true → 0 < merged_count symbols
        → symbol_name o (merged_object o C A P B path flag mode) 0 ≡ []
    unfolding symbol_name
    null_unnamed clear names h =
        symbol_name_merged o C A P B path flag mode clear sound names 0 h null_end
        ∙ ap (name_at (result_strings o C A mode path listed_statics)) null_at
        ∙ name_of_c o C A mode path listed_statics 0 null_ended
        ∙ ap (name_at (symbol_strings o C)) (sym null_starts)
        ∙ sound.unnamed
