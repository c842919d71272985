-- The names of ids as demand 3 compares them: the name that an id is written with, without path and colon where it stands at or behind C's strings and A's in mode 3, is its
-- working name. S are the statics. Assumes nothing.
use Prim.Native.Nat.{ℕ, ◌+◌, ◌≤◌, ◌<◌}
use mathlib.Core.Path.{◌≡◌, sym, ap, ◌∙◌, subst₃}
use mathlib.Core.Bool.{Bool, true, false, ◌&&◌}
use mathlib.Core.List.{List, ◌++◌}
use native.Mathlib.Omega.{arith}
use lib.ListN.{length, take, drop}
use lib.Seq.{take_at, drop_at}
use lib.Dec.{eqb, leb}
use borrow.Author.Tests.{eqb-true, eqb-false, le-leb, lt-leb}
use Rattle.base_lists.specs.Ranges.{pick_list}
use Rattle.base_lists.specs.Strings.{has_end}
use Rattle.base_lists.proofs.Ranges.{by-test, both}
use Rattle.base_lists.proofs.Strings.{end_low, has_end_lt}
use Rattle.base_fields.specs.declared.ByteOrder.{ByteOrder}
use Rattle.base_scope.specs.Text.{text}
use Rattle.elf_records.specs.declared.symbol.SymbolEntry.{SymbolEntry}
use Rattle.elf_symbols.specs.Symbols.{symbol_count, symbol, symbol_strings, symbol_name}
use Rattle.elf_check.specs.Sound.{Sound}
use Rattle.blocks_places.specs.Places.{Place}
use Rattle.statics_table.specs.declared.Static.{Static}
use Rattle.statics_table.specs.Statics.{MODE_FILENAME, working_name, name_head, written_name}
use Rattle.statics_names.proofs.Names.{head_path, head_other, head_long}
use Rattle.statics_entry.specs.Entry.{nth}
use Rattle.statics_symbols.specs.Entries.{symbol_of_static, static_symbol}
use Rattle.symbols_ids.specs.Entries.{finished, entry_a}
use Rattle.symbols_ids.specs.Ids.{by_origin, name_of, entry_static, entry_of}
use Rattle.merge_verdict.specs.of_write_plan.Names.{name_written}
use Rattle.demand_symbols.proofs.Ids.{by_id, of_c, of_a, of_static}

-- a name that has its end starts inside its table
pub starts_inside : (t : List ℕ) (at : ℕ) → has_end t at ≡ true → at < length t
starts_inside t at e = omega (arith, end_low t at, has_end_lt t at e)

and_false : (a b : Bool) → b ≡ false → (a && b) ≡ false
and_false a b f = by-test a (λ t. rw (t, f)) (λ g. rw g)

-- ---- a name w that stands at x; the strings of C and A end at `cut`

module _ (mode : ℕ) (path : List ℕ) (cut : ℕ) where
  abbrev pub is_pathed : ℕ → Bool
  is_pathed x = eqb mode MODE_FILENAME && leb cut x

  -- v is the working name
  pub record Plain (x : ℕ) (w v : List ℕ) : Type 0 where
    pub is : pick_list (is_pathed x) (drop (length path + 1) w) w ≡ v
    pub front : is_pathed x ≡ true → take (length path + 1) w ≡ path ++ text ":"

  -- nothing stands in front, so the name itself is
  bare : (x : ℕ) (w : List ℕ) → is_pathed x ≡ false → Plain x w w
  bare x w f = record { is = rw f; front = λ t. both t f }

  -- a name before the cut
  pub plain_low : (x : ℕ) (w : List ℕ) → x < cut → Plain x w w
  plain_low x w h = bare x w (and_false (eqb mode MODE_FILENAME) (leb cut x) (lt-leb cut x h))

  -- a static's, behind what the mode puts in front
  module _ (x : ℕ) (v : List ℕ) (h : cut ≤ x) where
    headed : eqb mode MODE_FILENAME ≡ true → Plain x (name_head mode path ++ v) v
    headed t =
        let e : mode ≡ MODE_FILENAME = eqb-true mode MODE_FILENAME t in
        let long : length (name_head mode path) ≡ length path + 1 = sym (head_long mode path e) in
        record {
          is = rw (t, le-leb cut x h) (drop_at (name_head mode path) v (length path + 1) long);
          front = λ y. take_at (name_head mode path) v (length path + 1) long ∙ sym (head_path mode path e);
        }

    plain_static : Plain x (name_head mode path ++ v) v
    plain_static = by-test (eqb mode MODE_FILENAME)
        headed
        (λ f. rw (← head_other mode path (eqb-false mode MODE_FILENAME f)) (bare x v (rw f)))

-- ---- the names of ids

module _ (o : ByteOrder) (C A : List ℕ) (P : List Place) (B : List ℕ) (mode : ℕ) (path : List ℕ) (S : List Static) where
  abbrev pub cut : ℕ
  cut = length (symbol_strings o C) + length (symbol_strings o A)

  abbrev entry_from : ℕ → SymbolEntry
  entry_from i = by_origin o C A (symbol o C) (entry_a o C A P B) (entry_static o C A P B mode S) i

  -- id i's, where its entry says that it stands
  abbrev pub PlainId : ℕ → Type 0
  PlainId i = Plain mode path cut (entry_of o C A P B mode S i).st_name (name_written o C A mode path S i) (name_of o C A S i)

  plain_of : (i : ℕ) (e : SymbolEntry) (w v : List ℕ) → entry_from i ≡ e → name_written o C A mode path S i ≡ w → name_of o C A S i ≡ v → Plain mode path cut e.st_name w v → PlainId i
  unfolding entry_of finished
  plain_of i e w v p q r x = subst₃ (Plain mode path cut) (sym (ap (λ (y : SymbolEntry). y.st_name) p)) (sym q) (sym r) x

  module _ (soundC : Sound o C) (soundA : Sound o A) where
    -- a symbol of C, one of A, a static
    plain_c : (k : ℕ) → k < symbol_count o C → PlainId k
    unfolding name_written name_of
    plain_c k h = plain_of k (symbol o C k) (symbol_name o C k) (symbol_name o C k)
        (of_c o C A SymbolEntry (symbol o C) (entry_a o C A P B) (entry_static o C A P B mode S) k h)
        (of_c o C A (List ℕ) (symbol_name o C) (symbol_name o A) (λ j. written_name mode path C (nth S j)) k h)
        (of_c o C A (List ℕ) (symbol_name o C) (symbol_name o A) (λ j. working_name C (nth S j)) k h)
        (plain_low mode path cut (symbol o C k).st_name (symbol_name o C k)
        (omega (arith, starts_inside (symbol_strings o C) (symbol o C k).st_name (soundC.symbol_ends k h))))

    plain_a : (k : ℕ) → k < symbol_count o A → PlainId (symbol_count o C + k)
    unfolding name_written name_of entry_a
    plain_a k h = plain_of (symbol_count o C + k) (entry_a o C A P B k) (symbol_name o A k) (symbol_name o A k)
        (of_a o C A SymbolEntry (symbol o C) (entry_a o C A P B) (entry_static o C A P B mode S) k h)
        (of_a o C A (List ℕ) (symbol_name o C) (symbol_name o A) (λ j. written_name mode path C (nth S j)) k h)
        (of_a o C A (List ℕ) (symbol_name o C) (symbol_name o A) (λ j. working_name C (nth S j)) k h)
        (plain_low mode path cut ((symbol o A k).st_name + length (symbol_strings o C)) (symbol_name o A k)
        (omega (arith, starts_inside (symbol_strings o A) (symbol o A k).st_name (soundA.symbol_ends k h))))

    plain_s : (k : ℕ) → k < length S → PlainId (symbol_count o C + symbol_count o A + k)
    unfolding name_written name_of entry_static static_symbol symbol_of_static written_name
    plain_s k h = plain_of (symbol_count o C + symbol_count o A + k) (entry_static o C A P B mode S k) (written_name mode path C (nth S k)) (working_name C (nth S k))
        (of_static o C A SymbolEntry (symbol o C) (entry_a o C A P B) (entry_static o C A P B mode S) k)
        (of_static o C A (List ℕ) (symbol_name o C) (symbol_name o A) (λ j. written_name mode path C (nth S j)) k)
        (of_static o C A (List ℕ) (symbol_name o C) (symbol_name o A) (λ j. working_name C (nth S j)) k)
        (plain_static mode path cut (cut + (nth S k).offset) (working_name C (nth S k)) (omega arith))

    -- each of them
    pub plain_id : (i : ℕ) → i < symbol_count o C + symbol_count o A + length S → PlainId i
    plain_id = by_id o C A (length S) PlainId plain_c plain_a plain_s
