-- How many symbols the result has: neither C's entry 0 is taken, nor A's, which would be local and undefined (refusal 18). Assumes nothing.
use Prim.Native.Nat.{ℕ, ◌+◌, ◌-◌, ◌≤◌, ◌<◌}
use mathlib.Core.Path.{◌≡◌, refl, sym, ap, ◌∙◌}
use mathlib.Core.Logic.{◌≢◌}
use mathlib.Core.Bool.{Bool, true, false, cond, not}
use mathlib.Core.List.{List}
use native.Mathlib.Omega.{arith}
use lib.ListN.{length}
use lib.Dec.{ltb}
use borrow.Author.Tests.{lt-ltb, le-ltb, eq-eqb}
use Rattle.base_lists.specs.Ranges.{first}
use Rattle.base_lists.specs.Strings.{same}
use Rattle.base_lists.proofs.Ranges.{by-test, by-lt, both}
use Rattle.base_fields.specs.declared.ByteOrder.{ByteOrder}
use Rattle.base_packed.specs.Packed.{binding_of}
use Rattle.base_scope.specs.Text.{text}
use Rattle.base_scope.specs.Elf.{SHN_UNDEF, STB_LOCAL}
use Rattle.base_scope.specs.Refusals.{LOOSE_SYMBOL, found_below}
use Rattle.base_scope.proofs.Refusals.{none_found}
use Rattle.base_answers.specs.Answers.{NONE}
use Rattle.base_answers.specs.Verdicts.{Passed, finding_verdict}
use Rattle.base_answers.proofs.Verdicts.{also_parts, finding_passed}
use Rattle.elf_records.specs.declared.symbol.SymbolEntry.{SymbolEntry}
use Rattle.elf_symbols.specs.Symbols.{symbol_count, symbol}
use Rattle.elf_symbol_faults.proofs.Faults.{zero_fields}
use Rattle.elf_check.specs.Sound.{Sound}
use Rattle.blocks_places.specs.Places.{Place}
use Rattle.statics_table.specs.declared.Static.{Static}
use Rattle.statics_walk.specs.Walk.{statics}
use Rattle.statics_walk.proofs.Sound.{statics_sound}
use Rattle.symbols_merge.specs.Candidates.{Candidates, is_defined, is_local}
use Rattle.symbols_merge.specs.Listed.{listed, position, is_loose, symbols_verdict}
use Rattle.symbols_merge.specs.Merged.{merged_count, merged_at, number_of}
use Rattle.symbols_merge.proofs.Merged.{Taken, position_lt, listed_position, merged_taken, number_back}
use Rattle.symbols_taken.specs.Taken.{is_placed_in, is_taken_c, is_taken_a}
use Rattle.symbols_taken.proofs.Symbols.{taken_null}
use Rattle.symbols_ids.specs.Entries.{finished, is_placed_a, section_a, is_glabel_a, type_a, entry_a}
use Rattle.symbols_ids.specs.Ids.{first_a, first_static, by_origin, name_of, entry_static, entry_of, candidates, merge_candidates}
use Rattle.symbols_fill.proofs.Origins.{origin_own, origin_other}
use Rattle.demand_symbols.specs.of_demand_clauses.Demand.{RESULT_SYMBOLS}
use Rattle.demand_reads.proofs.Few.{at_most}

-- ---- refusal 18

module _ (s : Candidates) (passed : symbols_verdict s ≡ Passed) where
  -- no position is loose
  none_loose : (q : ℕ) → q < length (listed s) → is_loose s q ≡ false
  unfolding symbols_verdict
  none_loose =
      let v = (also_parts (finding_verdict LOOSE_SYMBOL NONE (found_below (length (listed s)) (first (is_loose s) 0 (length (listed s))))) _ passed).0 in
      none_found (is_loose s) (length (listed s)) (finding_passed LOOSE_SYMBOL NONE _ v)

  -- what is local and undefined is not taken
  loose_untaken : (i : ℕ) → is_local s i ≡ true → is_defined s i ≡ false → Taken s i → ⊥
  unfolding is_loose
  loose_untaken i l d t = both {b = is_loose s (position s i)} (rw (listed_position s i t, l, d)) (none_loose (position s i) (position_lt s i t))

  -- ---- ids that two indices are not among

  module _ (x : ℕ) (some : 1 ≤ x) (low : x < s.many) (zeroth : Taken s 0 → ⊥) (other : Taken s x → ⊥) where
    -- without 0 and x
    abbrev place : ℕ → ℕ
    place i = cond (ltb i x) (i - 1) (i - 2)

    record Kept (i : ℕ) : Type 0 where
      below : i < s.many
      not_zero : i ≢ 0
      not_other : i ≢ x

    taken_kept : (i : ℕ) → Taken s i → Kept i
    taken_kept i t = record { below = t.0; not_zero = λ e. zeroth (rw e at t); not_other = λ e. other (rw e at t) }

    place_before : (i : ℕ) → i < x → place i ≡ i - 1
    place_before i l = rw (lt-ltb i x l)

    place_behind : (i : ℕ) → x ≤ i → place i ≡ i - 2
    place_behind i l = rw (le-ltb i x l)

    place_low : (i : ℕ) → Kept i → place i < s.many - 2
    place_low i k = by-lt i x
        (λ l. omega (arith, place_before i l, l, k.not_zero, low))
        (λ l. omega (arith, place_behind i l, l, k.not_other, k.below, some))

    place_inj : (i j : ℕ) → Kept i → Kept j → place i ≡ place j → i ≡ j
    place_inj i j k h e = by-lt i x
        (λ l. by-lt j x
        (λ u. omega (arith, e, place_before i l, place_before j u, k.not_zero, h.not_zero))
        (λ u. omega (arith, e, place_before i l, place_behind j u, l, u, k.not_zero, h.not_other)))
        (λ l. by-lt j x
        (λ u. omega (arith, e, place_behind i l, place_before j u, l, u, h.not_zero, k.not_other))
        (λ u. omega (arith, e, place_behind i l, place_behind j u, l, u, some, k.not_other, h.not_other)))

    entry_kept : (j : ℕ) → j < merged_count s - 1 → Kept (merged_at s (j + 1))
    entry_kept j h = taken_kept (merged_at s (j + 1)) (merged_taken s (j + 1) (omega arith) (omega (arith, h)))

    entries_apart : (i j : ℕ) → i < j → j < merged_count s - 1 → place (merged_at s (i + 1)) ≢ place (merged_at s (j + 1))
    entries_apart i j l h e =
        let q = place_inj (merged_at s (i + 1)) (merged_at s (j + 1)) (entry_kept i (omega (arith, l, h))) (entry_kept j h) e in
        let a = number_back s (i + 1) (omega arith) (omega (arith, l, h)) in
        let b = number_back s (j + 1) (omega arith) (omega (arith, h)) in
        omega (arith, l, sym a ∙ ap (number_of s) q ∙ b)

    -- with entry 0, one less than all candidates
    pub merged_least : merged_count s ≤ s.many - 1
    merged_least =
        let m = at_most (λ j. place (merged_at s (j + 1))) (s.many - 2) (merged_count s - 1) (λ j h. place_low (merged_at s (j + 1)) (entry_kept j h)) entries_apart in
        omega (arith, m, some, low)

-- ---- A's entry 0

finished_local : (name : List ℕ) (e : SymbolEntry) → e.st_info ≡ 0 → binding_of (finished name e).st_info ≡ 0
unfolding finished
finished_local name e z = by-test (same name (text "_gp_disp")) (λ t. rw (z, t)) (λ f. rw (z, f))

module _ (o : ByteOrder) (C A : List ℕ) (P : List Place) (B : List ℕ) (sound : Sound o A) where
  null_unplaced : is_placed_a o C A P B 0 ≡ false
  unfolding is_placed_a is_placed_in
  null_unplaced = rw (zero_fields (symbol o A 0) sound.null).index

  null_info : (entry_a o C A P B 0).st_info ≡ 0
  unfolding entry_a type_a is_glabel_a
  null_info = rw (null_unplaced, (zero_fields (symbol o A 0) sound.null).info)

  null_section : (entry_a o C A P B 0).st_shndx ≡ 0
  unfolding entry_a section_a
  null_section = rw null_unplaced (zero_fields (symbol o A 0) sound.null).index

-- ---- in the result

module _ (o : ByteOrder) (C A : List ℕ) (P : List Place) (B : List ℕ) (mode head : ℕ) (own : Sound o C) (other : Sound o A) where
  abbrev n : ℕ
  n = symbol_count o C

  abbrev m : ℕ
  m = symbol_count o A

  abbrev S : List Static
  S = statics o C mode head

  abbrev s : Candidates
  s = merge_candidates o C A P B mode head

  abbrev whole : ℕ → SymbolEntry
  whole i = by_origin o C A (symbol o C) (entry_a o C A P B) (entry_static o C A P B mode S) i

  null_whole : whole n ≡ entry_a o C A P B 0
  null_whole =
      let u : n < n + m = omega (arith, other.tabled.some) in
      let z : n - n ≡ 0 = omega arith in
      origin_other o C A n m refl refl n SymbolEntry (symbol o C) (entry_a o C A P B) (entry_static o C A P B mode S) (omega arith) u
      ∙ ap (entry_a o C A P B) z

  -- local and undefined
  null_local : is_local s n ≡ true
  unfolding is_local merge_candidates candidates entry_of
  null_local =
      let i : (whole n).st_info ≡ 0 = ap (λ (e : SymbolEntry). e.st_info) null_whole ∙ null_info o C A P B other in
      eq-eqb _ STB_LOCAL (finished_local (name_of o C A S n) (whole n) i)

  null_undefined : is_defined s n ≡ false
  unfolding is_defined merge_candidates candidates entry_of finished
  null_undefined =
      let i : (whole n).st_shndx ≡ 0 = ap (λ (e : SymbolEntry). e.st_shndx) null_whole ∙ null_section o C A P B other in
      ap not (eq-eqb (whole n).st_shndx SHN_UNDEF i)

  -- C's entry 0
  zeroth_untaken : Taken s 0 → ⊥
  unfolding merge_candidates candidates
  zeroth_untaken t =
      both t.1 (origin_own o C A n m refl refl 0 Bool (is_taken_c o C) (is_taken_a o A) (λ k. true) own.tabled.some ∙ sym (taken_null o C 0 refl))

  many_is : s.many ≡ n + m + length S
  unfolding merge_candidates candidates first_static first_a
  many_is = refl

  -- entry 0, C's and A's others, and the statics
  pub few_symbols_lem : symbols_verdict s ≡ Passed → merged_count s ≤ RESULT_SYMBOLS
  few_symbols_lem passed =
      let l = merged_least s passed n own.tabled.some (omega (arith, many_is, other.tabled.some)) zeroth_untaken (loose_untaken s passed n null_local null_undefined) in
      omega (arith, l, many_is, own.tabled.few, other.tabled.few, (statics_sound o C mode head).few)
