-- What refusals 11 to 13 leave true, derived from their definitions. Assumes nothing.
use Rattle.std.specs.Prelude.{None, Some}
use Prim.Native.Nat.{ℕ, ◌+◌, ◌≤◌, ◌<◌}
use mathlib.Core.Path.{◌≡◌, refl, sym, ◌∙◌}
use mathlib.Core.Bool.{Bool, true, false}
use mathlib.Core.List.{List}
use native.Mathlib.Omega.{arith}
use lib.ListN.{length}
use lib.Dec.{ltb}
use borrow.Author.Tests.{lt-ltb, leb-true, not-false, ltb-true}
use Rattle.base_lists.proofs.Ranges.{by-lt, both, and_parts, first_high, none_first}
use Rattle.base_fields.specs.declared.ByteOrder.{ByteOrder}
use Rattle.base_scope.specs.Codes.{LATE_RODATA, line_block}
use Rattle.base_scope.specs.Refusals.{BLOCK_LABELS, LATE_LABELS}
use Rattle.base_scope.specs.Text.{text}
use Rattle.base_scope.proofs.Refusals.{expect_clear}
use Rattle.base_answers.specs.Verdicts.{Passed}
use Rattle.base_answers.specs.Answers.{ASSEMBLED}
use Rattle.base_answers.proofs.Verdicts.{also_parts, finding_passed}
use Rattle.elf_readers.specs.Readers.{coded_section, coded_contents}
use Rattle.blocks_places.specs.Lines.{line_count}
use Rattle.blocks_places.specs.Places.{Place, taken}
use Rattle.blocks_items.specs.Items.{late_length}
use Rattle.merge_missing.specs.of_late_length.Late.{has_late_step}
use Rattle.merge_missing.proofs.of_late_length.Late.{step_length}
use Rattle.merge_missing.specs.Missing.{missing_verdict}
use Rattle.merge_missing.specs.Complete.{Complete}
use Rattle.merge_missing.proofs.Complete.{complete_of}
use Rattle.merge_labels.specs.Labels.{is_at, is_lined, is_mislabelled, mislabelled_at, label_fault, late_label, late_start, late_lined}
use Rattle.merge_line_up.specs.LineUp.{late_label_fault, labels_verdict, line_up_verdict}
use Rattle.merge_line_up.specs.Agrees.{Agrees}

module _ (o : ByteOrder) (C A : List ℕ) (P : List Place) (B : List ℕ) (e : line_up_verdict o C A P B ≡ Passed) where
  first : (missing_verdict o C A P B ≡ Passed) × (labels_verdict o A P B (late_length P B) ≡ Passed)
  unfolding line_up_verdict
  first = also_parts _ _ e

  labels_clear : (label_fault o A P B ≡ None) × (late_label_fault o A (late_length P B) ≡ None)
  unfolding labels_verdict
  labels_clear =
      let r = also_parts _ _ first.1 in
      (finding_passed BLOCK_LABELS ASSEMBLED _ r.0, finding_passed LATE_LABELS ASSEMBLED _ r.1)

  mislabelled_high : mislabelled_at o A P B ≤ line_count B
  unfolding mislabelled_at
  mislabelled_high = first_high (is_mislabelled o A P B) 0 (line_count B) (omega arith)

  -- no line is mislabelled
  none_mislabelled : mislabelled_at o A P B ≡ line_count B
  unfolding label_fault
  none_mislabelled = by-lt (mislabelled_at o A P B) (line_count B)
      (λ h.
      let q : Some (line_block (mislabelled_at o A P B)) ≡ None = rw (lt-ltb (mislabelled_at o A P B) (line_count B) h) at labels_clear.0 in
      both {b = true} refl (apart _ q))
      (λ h. omega (arith, mislabelled_high))
    where
      apart : (i : ℕ) → Some i ≡ None → true ≡ false
      apart i e = cc

  labels_stand : (j : ℕ) → j < line_count B → taken P j ≡ true → is_lined o A P B j ≡ true
  unfolding mislabelled_at is_mislabelled
  labels_stand j h t =
      let f : is_mislabelled o A P B j ≡ false = none_first (is_mislabelled o A P B) 0 (line_count B) j none_mislabelled (omega arith) h in
      not-false _ (rw t at f)

  late_stand : has_late_step P B ≡ true → late_lined o A (late_length P B) ≡ true
  unfolding late_label_fault
  late_stand t =
      let s : ltb 0 (late_length P B) ≡ true = sym (step_length P B) ∙ t in
      (expect_clear (late_lined o A (late_length P B)) 0 None (rw s at labels_clear.1)).0

  late_held : has_late_step P B ≡ true → late_start o A + late_length P B ≤ length (coded_contents o A LATE_RODATA)
  unfolding late_lined
  late_held t =
      let s = is_at o A (late_label (text "_start")) (coded_section o A LATE_RODATA) (late_start o A) in
      let f = is_at o A (late_label (text "_end")) (coded_section o A LATE_RODATA) (late_start o A + late_length P B) in
      leb-true _ _ (and_parts f _ (and_parts s _ (late_stand t)).1).1

  pub agrees_of : Agrees o C A P B
  agrees_of = record { complete = complete_of o C A P B first.0; labels = labels_stand; late_labels = late_stand; late_inside = late_held }
