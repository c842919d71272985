-- Laws of working names by their parts: an id below the first static is a symbol's, and its name has no count; what is in hand says which. Assumes nothing.
use Prim.Native.Nat.{ℕ, ◌+◌, ◌-◌, ◌≤◌, ◌<◌}
use mathlib.Core.Path.{◌≡◌, refl, sym, ap, ◌∙◌}
use mathlib.Core.List.{List, ◌++◌}
use native.Mathlib.Omega.{arith}
use lib.ListN.{length}
use lib.Dec.{ltb}
use borrow.Author.Tests.{lt-ltb, le-ltb}
use Rattle.base_lists.specs.Strings.{name_at}
use Rattle.base_lists.proofs.Ranges.{by-test, by-lt}
use Rattle.base_fields.specs.declared.ByteOrder.{ByteOrder}
use Rattle.base_scope.specs.Limits.{STATIC_LIMIT}
use Rattle.base_names.specs.declared.Owner.TheVariants.{Compiled, Assembled}
use Rattle.base_names.specs.Tables.{table_of}
use Rattle.elf_symbols.specs.Symbols.{symbol_count, symbol, symbol_strings, symbol_name}
use Rattle.elf_symbols.proofs.Symbols.{table_count}
use Rattle.statics_table.specs.declared.Static.{Static}
use Rattle.statics_table.specs.Statics.{stored_name, count_tail, working_name}
use Rattle.statics_table.specs.Table.{static_in, statics_in}
use Rattle.statics_table.proofs.Statics.{namesakes_le}
use Rattle.statics_table.proofs.Table.{length_statics, statics_at}
use Rattle.symbols_ids.specs.of_statics_entry.Entry.{nth}
use Rattle.symbols_ids.specs.Ids.{first_a, first_static, by_origin, name_of}
use Rattle.symbols_names.specs.declared.Sources.{Sources}
use Rattle.symbols_names.specs.Names.{stored_of, name_count, first_in, name_count_in, RowsHeld, SourcesRead}
use Rattle.symbols_names.proofs.Tails.{joined_none}

module _ (o : ByteOrder) (C A : List ℕ) (S : List Static) (i : ℕ) where
  -- a working name is its stored name and the tail of its count
  pub name_parts : name_of o C A S i ≡ stored_of o C A S i ++ count_tail (name_count o C A S i)
  unfolding name_of stored_of name_count by_origin working_name
  name_parts = by-test (ltb i (first_a o C A))
      (λ t. rw t (joined_none (symbol_name o C i) 0 refl))
      (λ f. by-test (ltb i (first_static o C A))
      (λ t. rw (f, t) (joined_none (symbol_name o A (i - first_a o C A)) 0 refl))
      (λ g. rw (f, g)))

-- a name in the strings of its object, where the entry has it
pub name_read : (o : ByteOrder) (F t : List ℕ) (at k : ℕ) → t ≡ symbol_strings o F → at ≡ (symbol o F k).st_name → name_at t at ≡ symbol_name o F k
unfolding symbol_name
name_read o F t at k e is = rw (e, is)

-- the count in hand: f is the id of the first static, x the static's row
module _ (T : List ℕ) (s : Sources) (i f : ℕ) (first : f ≡ first_in s) where
  pub number_symbol : i < f → 0 ≡ name_count_in T s i
  unfolding name_count_in
  number_symbol h = rw (← first, lt-ltb i f h)

  pub number_static : (x : Static) → f ≤ i → x ≡ static_in T (i - f) → x.number ≡ name_count_in T s i
  unfolding name_count_in
  number_static x h is = rw (← first, le-ltb i f h, is)

module _ (o : ByteOrder) (C A T : List ℕ) (s : Sources) (r : SourcesRead o C A T s) where
  pub own_count : s.compiled.count ≡ symbol_count o C
  own_count = table_count o C s.compiled r.compiled

  pub other_count : s.assembled.count ≡ symbol_count o A
  other_count = table_count o A s.assembled r.assembled

  first_a_lem : first_a o C A ≡ s.compiled.count
  unfolding first_a
  first_a_lem = sym own_count

  pub first_static_lem : first_static o C A ≡ first_in s
  unfolding first_static
  first_static_lem = omega (arith, first_a_lem, other_count)

  -- the ids below the number of candidates are those in hand
  pub ids_held : first_static o C A + length (statics_in T s.statics) ≡ first_in s + s.statics
  ids_held = omega (arith, first_static_lem, length_statics T s.statics)

  pub rows_held : RowsHeld T s
  rows_held = record {
    symbols = omega (arith, own_count, other_count, r.compiled.tabled.few, r.assembled.tabled.few);
    few = r.counted.few;
    long = r.counted.long;
  }

  nth_row : (k : ℕ) → k < s.statics → nth (statics_in T s.statics) k ≡ static_in T k
  unfolding nth
  nth_row k h = statics_at T k s.statics _ h

  -- a count is one more than that of the namesakes before, and so at most the number of statics
  row_low : (k : ℕ) → k < s.statics → (static_in T k).number ≤ STATIC_LIMIT
  row_low k h = by-lt 0 (static_in T k).number
      (λ p. omega (arith, r.counted.numbered.each k h p, namesakes_le C (stored_name C (static_in T k)) (static_in T) k, r.counted.few))
      (λ p. omega arith)

  module _ (i : ℕ) where
    -- the stored name of a symbol is its name
    pub own_stored : i < s.compiled.count → symbol_name o C i ≡ stored_of o C A (statics_in T s.statics) i
    unfolding stored_of by_origin
    own_stored h = rw (first_a_lem, lt-ltb i s.compiled.count h)

    pub other_stored : s.compiled.count ≤ i → i < first_in s → symbol_name o A (i - s.compiled.count) ≡ stored_of o C A (statics_in T s.statics) i
    unfolding stored_of by_origin
    other_stored h l = rw (first_a_lem, first_static_lem, le-ltb i s.compiled.count h, lt-ltb i (first_in s) l)

    -- w is the name at `at` in its object's strings: t are C's, u are A's
    pub stored_own : (w t u : List ℕ) (at : ℕ) → w ≡ name_at (table_of Compiled t u) at → t ≡ symbol_strings o C → at ≡ (symbol o C i).st_name → i < s.compiled.count
        → w ≡ stored_of o C A (statics_in T s.statics) i
    unfolding table_of
    stored_own w t u at e strings is h = e ∙ name_read o C t at i strings is ∙ own_stored h

    pub stored_other : (w t u : List ℕ) (at : ℕ) → w ≡ name_at (table_of Assembled t u) at → u ≡ symbol_strings o A → at ≡ (symbol o A (i - s.compiled.count)).st_name
        → s.compiled.count ≤ i → i < first_in s → w ≡ stored_of o C A (statics_in T s.statics) i
    unfolding table_of
    stored_other w t u at e strings is h l = e ∙ name_read o A u at (i - s.compiled.count) strings is ∙ other_stored h l

    pub stored_static : (x : Static) (f : ℕ) → f ≡ first_in s → f ≤ i → i < f + s.statics → x ≡ static_in T (i - f)
        → name_at C x.start ≡ stored_of o C A (statics_in T s.statics) i
    unfolding stored_of by_origin stored_name
    stored_static x f first h l is =
        rw (first_a_lem, first_static_lem, ← first, le-ltb i s.compiled.count (omega arith), le-ltb i f h, nth_row (i - f) (omega arith), is)

    -- a symbol's working name is its name, and a static's is that of its row
    pub name_own : i < s.compiled.count → symbol_name o C i ≡ name_of o C A (statics_in T s.statics) i
    unfolding name_of by_origin
    name_own h = rw (first_a_lem, lt-ltb i s.compiled.count h)

    pub name_other : s.compiled.count ≤ i → i < first_in s → symbol_name o A (i - s.compiled.count) ≡ name_of o C A (statics_in T s.statics) i
    unfolding name_of by_origin
    name_other h l = rw (first_a_lem, first_static_lem, le-ltb i s.compiled.count h, lt-ltb i (first_in s) l)

    pub name_static : first_in s ≤ i → i < first_in s + s.statics → working_name C (static_in T (i - first_in s)) ≡ name_of o C A (statics_in T s.statics) i
    unfolding name_of by_origin
    name_static h l = rw (first_a_lem, first_static_lem, le-ltb i s.compiled.count (omega arith), le-ltb i (first_in s) h, nth_row (i - first_in s) (omega arith))

    -- the count of what is in hand is the count of the id
    module _ (l : i < first_in s + s.statics) where
      pub number_is : name_count_in T s i ≡ name_count o C A (statics_in T s.statics) i
      unfolding name_count_in name_count by_origin
      number_is = by-lt i s.compiled.count
          (λ h. rw (first_a_lem, lt-ltb i s.compiled.count h, lt-ltb i (first_in s) (omega arith)))
          (λ h. by-lt i (first_in s)
          (λ m. rw (first_a_lem, first_static_lem, le-ltb i s.compiled.count h, lt-ltb i (first_in s) m))
          (λ m. rw (first_a_lem, first_static_lem, le-ltb i s.compiled.count h, le-ltb i (first_in s) m, nth_row (i - first_in s) (omega arith))))

      pub number_low : name_count_in T s i ≤ STATIC_LIMIT
      number_low = by-lt i (first_in s)
          (λ m. omega (arith, number_symbol T s i (first_in s) refl m))
          (λ m. omega (arith, number_static T s i (first_in s) refl (static_in T (i - first_in s)) m refl, row_low (i - first_in s) (omega arith)))

      -- the count in hand, and both parts
      pub name_counted : (n : ℕ) → n ≡ name_count_in T s i → stored_of o C A (statics_in T s.statics) i ++ count_tail n ≡ name_of o C A (statics_in T s.statics) i
      name_counted n is = sym (name_parts o C A (statics_in T s.statics) i ∙ rw (is, number_is))

      pub name_joined : (a : List ℕ) (n : ℕ) → a ≡ stored_of o C A (statics_in T s.statics) i → n ≡ name_count_in T s i
          → a ++ count_tail n ≡ name_of o C A (statics_in T s.statics) i
      name_joined a n e is = ap (λ (x : List ℕ). x ++ count_tail n) e ∙ name_counted n is
