-- What the code reads by the views of C and A and in the table of the late step is what the definitions say of C, A, P and B. Assumes nothing.
use Rattle.std.specs.Prelude.{None, Some}
use Prim.Native.Nat.{ℕ}
use mathlib.Core.Path.{◌≡◌, refl, sym, ◌∙◌}
use mathlib.Core.Bool.{Bool, true, false}
use mathlib.Core.List.{List}
use Rattle.base_lists.proofs.Ranges.{by-test, first_ext}
use Rattle.base_fields.specs.declared.ByteOrder.{ByteOrder}
use Rattle.base_scope.specs.Codes.{target_code}
use Rattle.elf_symbols.specs.Symbols.{symbol_count, symbol}
use Rattle.merge_inputs.specs.of_elf_check.declared.View.{View}
use Rattle.merge_inputs.specs.of_elf_check.View.{view_of}
use Rattle.merge_inputs.proofs.of_elf_check.Views.{view_has}
use Rattle.merge_inputs.specs.of_blocks_places.Places.{Place}
use Rattle.late_lookups.specs.of_late_moves.Moved.{is_moved, moved_place}
use Rattle.late_lookups.proofs.of_late_moves.Idle.{idle_moved}
use Rattle.late_lookups.specs.Fields.{pick_late_place}
use Rattle.late_lookups.specs.Lookups.{moved_offset}
use Rattle.late_lookups.proofs.Lookups.{late_rows, offset_moved}
use Rattle.merge_labels.specs.Labels.{late_start}
use Rattle.symbols_taken.specs.Taken.{symbol_code, has_target, is_homeless, homeless_at, is_unmoved, unmoved_at, taken_verdict}
use Rattle.symbols_taken.specs.Code.{code_in, has_target_in, lacks_target_in, is_homeless_in, homeless_in, is_moved_in, is_unmoved_value, is_unmoved_in, unmoved_in, taken_in, LateIn, StepIn, is_place}
use Rattle.symbols_taken.proofs.Sections.{code_range, code_is, source_is}
use Rattle.symbols_taken.proofs.Faults.{target_low}

-- ---- the late step

module _ (o : ByteOrder) (A : List ℕ) (P : List Place) (B : List ℕ) (runs : Bool) (late : List ℕ) (n : ℕ) (s : StepIn o A P B runs late n) where
  -- what the code asks of its table
  pub step_late : LateIn runs late n
  step_late t = rw s.many (late_rows o P B s.searched (late_start o A) late (s.moves t))

  is_place_lem : (b : Bool) (p : ℕ) → is_place (pick_late_place b (Some p) None) ≡ b
  is_place_lem true p = refl
  is_place_lem false p = refl

  pub moved_is : (x : ℕ) → is_moved_in runs late n x ≡ is_moved P B (late_start o A) x
  unfolding is_moved_in moved_offset
  moved_is x = by-test runs
      (λ t.
      rw (t, s.many, offset_moved o P B s.searched (late_start o A) late (s.moves t) x)
      (is_place_lem (is_moved P B (late_start o A) x) (moved_place o P B s.searched (late_start o A) x)))
      (λ f. rw f (sym (idle_moved P B (sym s.there ∙ f) (late_start o A) x)))

  unmoved_same : (k : ℕ) → is_unmoved_in o A runs late n k ≡ is_unmoved o A P B k
  unfolding is_unmoved_in is_unmoved is_unmoved_value
  unmoved_same k = rw (moved_is (symbol o A k).st_value)

  -- 16
  pub unmoved_is : unmoved_in o A runs late n ≡ unmoved_at o A P B
  unfolding unmoved_in unmoved_at
  unmoved_is = first_ext (is_unmoved_in o A runs late n) (is_unmoved o A P B) 0 (symbol_count o A) (λ k l u. unmoved_same k)

-- ---- C and A by their views

module _ (o : ByteOrder) (C A : List ℕ) (w v : View) (compiled : w ≡ view_of o C) (assembled : v ≡ view_of o A) where
  target_same : (k : ℕ) → has_target_in w v (symbol o A k).st_shndx ≡ has_target o C A k
  unfolding has_target_in has_target symbol_code
  target_same k =
      let c = code_range v (symbol o A k).st_shndx in
      let t = target_low (code_in v (symbol o A k).st_shndx) c.0 c.1 in
      rw (view_has o C w compiled (target_code (code_in v (symbol o A k).st_shndx)) t.0 t.1, source_is o A v assembled (symbol o A k).st_shndx, code_is o A v assembled (symbol o A k).st_shndx)

  homeless_same : (k : ℕ) → is_homeless_in w v o A k ≡ is_homeless o C A k
  unfolding is_homeless_in is_homeless lacks_target_in
  homeless_same k = rw (target_same k)

  -- 15
  pub homeless_is : homeless_in w v o A ≡ homeless_at o C A
  unfolding homeless_in homeless_at
  homeless_is = first_ext (is_homeless_in w v o A) (is_homeless o C A) 0 (symbol_count o A) (λ k l u. homeless_same k)

  -- both
  pub taken_is : (P : List Place) (B : List ℕ) (runs : Bool) (late : List ℕ) (n : ℕ) → StepIn o A P B runs late n
      → taken_in w v o A runs late n ≡ taken_verdict o C A P B
  unfolding taken_in taken_verdict
  taken_is P B runs late n s = rw (homeless_is, unmoved_is o A P B runs late n s)
