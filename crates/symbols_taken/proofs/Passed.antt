-- What 15 and 16 leave true: each is a search that found no symbol, so no symbol is at fault by either. Assumes nothing.
use Rattle.std.specs.Prelude.{None}
use Prim.Native.Nat.{ℕ, ◌<◌}
use mathlib.Core.Path.{◌≡◌, refl}
use mathlib.Core.Bool.{Bool, true, false, not, ◌&&◌, ◌||◌}
use mathlib.Core.List.{List}
use mathlib.Core.Logic.{◌⊎◌, inl, inr, ◌≢◌}
use lib.Dec.{eqb}
use borrow.Author.Tests.{eq-eqb, eqb-true, eqb-false, not-false}
use Rattle.base_lists.proofs.Ranges.{by-test, or_parts, and_parts}
use Rattle.base_fields.specs.declared.ByteOrder.{ByteOrder}
use Rattle.base_scope.specs.Codes.{LATE_RODATA, target_code}
use Rattle.base_scope.specs.Elf.{SHN_UNDEF, SHN_ABS}
use Rattle.base_scope.specs.Refusals.{SYMBOL_SECTION, LATE_SYMBOL, found_below}
use Rattle.base_scope.proofs.Refusals.{none_found}
use Rattle.base_answers.specs.Answers.{ASSEMBLED}
use Rattle.base_answers.specs.Verdicts.{Passed, finding_verdict}
use Rattle.base_answers.proofs.Verdicts.{also_parts, finding_passed}
use Rattle.elf_readers.specs.Readers.{has_code}
use Rattle.elf_symbols.specs.Symbols.{symbol_count, symbol}
use Rattle.merge_inputs.specs.of_blocks_places.Places.{Place}
use Rattle.late_lookups.specs.of_late_length.Late.{has_late_step}
use Rattle.late_lookups.specs.of_late_moves.Moved.{is_moved}
use Rattle.late_lookups.proofs.of_late_moves.Idle.{idle_moved}
use Rattle.merge_labels.specs.Labels.{late_start}
use Rattle.symbols_taken.specs.Used.{is_source, is_used}
use Rattle.symbols_taken.specs.Taken.{is_helper, is_placed_in, is_taken_a, symbol_code, has_target, is_homeless, homeless_at, is_unmoved, unmoved_at, taken_verdict}
use Rattle.symbols_taken.specs.Passed.{Targeted, TakenPassed}

-- ---- refusal 16 where the late step does not run

-- nothing is moved then, so a taken symbol of .late_rodata is at fault
pub idle_unmoved : (o : ByteOrder) (A : List ℕ) (P : List Place) (B : List ℕ) (k : ℕ) → has_late_step P B ≡ false → is_taken_a o A k ≡ true → symbol_code o A k ≡ LATE_RODATA
    → is_unmoved o A P B k ≡ true
unfolding is_unmoved
idle_unmoved o A P B k idle t e =
    rw (t, eq-eqb _ _ e, idle_moved P B idle (late_start o A) (symbol o A k).st_value) (or_yes (eqb (symbol o A k).st_value 0))
  where
    or_yes : (b : Bool) → (b || true) ≡ true
    or_yes true = refl
    or_yes false = refl

-- ---- one symbol without a fault

module _ (o : ByteOrder) (C A : List ℕ) (k : ℕ) (clear : is_homeless o C A k ≡ false) where
  homeless_parts : ((is_taken_a o A k && (is_placed_in (symbol o A k).st_shndx && not (has_target o C A k))) ≡ false) × ((is_used o A k && is_helper o A k) ≡ false)
  unfolding is_homeless
  homeless_parts = or_parts (is_taken_a o A k && (is_placed_in (symbol o A k).st_shndx && not (has_target o C A k))) (is_used o A k && is_helper o A k) clear

  pub clear_plain : is_used o A k ≡ true → is_helper o A k ≡ false
  clear_plain u = rw u at homeless_parts.1

  targeted : has_target o C A k ≡ true → Targeted o C A k
  unfolding has_target
  targeted t =
      let p = and_parts (is_source o A (symbol o A k).st_shndx) (has_code o C (target_code (symbol_code o A k))) t in
      record { source = p.0; target = p.1 }

  -- a section index that is a section's has a target
  pub clear_placed : is_taken_a o A k ≡ true → ((symbol o A k).st_shndx ≡ SHN_UNDEF) ⊎ (((symbol o A k).st_shndx ≡ SHN_ABS) ⊎ Targeted o C A k)
  unfolding is_placed_in
  clear_placed t =
      let x = (symbol o A k).st_shndx in
      let f : (is_placed_in x && not (has_target o C A k)) ≡ false = rw t at homeless_parts.0 in
      by-test (eqb x SHN_UNDEF)
      (λ e. inl (eqb-true x SHN_UNDEF e))
      (λ n. by-test (eqb x SHN_ABS)
      (λ e. inr (inl (eqb-true x SHN_ABS e)))
      (λ m. inr (inr (targeted (not-false (has_target o C A k) (rw (n, m) at f))))))

module _ (o : ByteOrder) (A : List ℕ) (P : List Place) (B : List ℕ) (k : ℕ) (clear : is_unmoved o A P B k ≡ false) (t : is_taken_a o A k ≡ true) (e : symbol_code o A k ≡ LATE_RODATA) where
  late_parts : (eqb (symbol o A k).st_value 0 ≡ false) × (not (is_moved P B (late_start o A) (symbol o A k).st_value) ≡ false)
  unfolding is_unmoved
  late_parts =
      or_parts (eqb (symbol o A k).st_value 0) (not (is_moved P B (late_start o A) (symbol o A k).st_value)) (rw (t, eq-eqb _ _ e) at clear)

  pub clear_moved : is_moved P B (late_start o A) (symbol o A k).st_value ≡ true
  clear_moved = not-false (is_moved P B (late_start o A) (symbol o A k).st_value) late_parts.1

  pub clear_valued : (symbol o A k).st_value ≢ 0
  clear_valued = eqb-false (symbol o A k).st_value 0 late_parts.0

-- ---- all of them

module _ (o : ByteOrder) (C A : List ℕ) (P : List Place) (B : List ℕ) where
  homeless_none : found_below (symbol_count o A) (homeless_at o C A) ≡ None → (k : ℕ) → k < symbol_count o A → is_homeless o C A k ≡ false
  unfolding homeless_at
  homeless_none e = none_found (is_homeless o C A) (symbol_count o A) e

  unmoved_none : found_below (symbol_count o A) (unmoved_at o A P B) ≡ None → (k : ℕ) → k < symbol_count o A → is_unmoved o A P B k ≡ false
  unfolding unmoved_at
  unmoved_none e = none_found (is_unmoved o A P B) (symbol_count o A) e

  pub taken_passed : taken_verdict o C A P B ≡ Passed → TakenPassed o C A P B
  unfolding taken_verdict
  taken_passed e =
      let p = also_parts (finding_verdict SYMBOL_SECTION ASSEMBLED (found_below (symbol_count o A) (homeless_at o C A))) _ e in
      let h = homeless_none (finding_passed SYMBOL_SECTION ASSEMBLED _ p.0) in
      let u = unmoved_none (finding_passed LATE_SYMBOL ASSEMBLED _ p.1) in
      record {
        placed = λ k l t. clear_placed o C A k (h k l) t;
        plain = λ k l t. clear_plain o C A k (h k l) t;
        moved = λ k l t c. clear_moved o A P B k (u k l) t c;
        valued = λ k l t c. clear_valued o A P B k (u k l) t c;
      }
