-- The laws of 11 to 13: each way through them, and the late step that they leave. Assumes nothing.
use Rattle.std.specs.Prelude.{None, Option}
use Prim.Native.Nat.{ℕ, ◌+◌, ◌≤◌, ◌<◌}
use mathlib.Core.Path.{◌≡◌, refl, sym, ap, ◌∙◌}
use mathlib.Core.Bool.{Bool, true, false}
use mathlib.Core.List.{List}
use native.Mathlib.Omega.{arith}
use lib.ListN.{get_or}
use lib.Dec.{ltb}
use borrow.Author.Tests.{lt-ltb, le-ltb}
use Rattle.base_fields.specs.declared.ByteOrder.{ByteOrder}
use Rattle.base_scope.specs.Codes.{LATE_TARGET}
use Rattle.base_scope.specs.Refusals.{BLOCK_LABELS, LATE_LABELS, expect}
use Rattle.base_scope.specs.Text.{text}
use Rattle.base_answers.specs.Answers.{ASSEMBLED}
use Rattle.base_answers.specs.Verdicts.{Passed, Refused, Verdict, finding_verdict}
use Rattle.base_answers.proofs.Verdicts.{also_passed, also_refused}
use Rattle.blocks_places.specs.Places.{Place}
use Rattle.blocks_items.specs.Items.{late_length}
use Rattle.blocks_spans.specs.Table.{span_ends}
use Rattle.blocks_spans.proofs.Table.{ends_code}
use Rattle.merge_missing.specs.of_late_length.declared.LateStep.{LateStep}
use Rattle.merge_missing.specs.of_late_length.Late.{has_late_step}
use Rattle.merge_missing.proofs.of_late_length.Late.{step_length}
use Rattle.merge_missing.specs.Missing.{missing_verdict}
use Rattle.merge_labels.specs.declared.Label.{Label}
use Rattle.merge_labels.specs.Labels.{label_of, label_fault, late_label, late_start, late_lined}
use Rattle.merge_line_up.specs.LineUp.{late_label_fault, labels_verdict, line_up_verdict, late_step_of}
use Rattle.merge_line_up.specs.Answer.{Lined, lined_verdict, LinesUp}

module _ (o : ByteOrder) (A : List ℕ) (n : ℕ) where
  pub fault_step : (x : Bool) → x ≡ late_lined o A n → 0 < n → expect x 0 None ≡ late_label_fault o A n
  unfolding late_label_fault
  fault_step x e h = rw (e, lt-ltb 0 n h)

  pub fault_still : n ≤ 0 → None ≡ late_label_fault o A n
  unfolding late_label_fault
  fault_still h = rw (le-ltb 0 n h)

-- ---- 12, then 13

module _ (o : ByteOrder) (A : List ℕ) (P : List Place) (B : List ℕ) (n : ℕ) (f : Option ℕ) (is : f ≡ label_fault o A P B) (v : Verdict)
    (so : v ≡ finding_verdict BLOCK_LABELS ASSEMBLED f) where
  first_is : v ≡ finding_verdict BLOCK_LABELS ASSEMBLED (label_fault o A P B)
  first_is = so ∙ ap (finding_verdict BLOCK_LABELS ASSEMBLED) is

  pub labels_12 : (x y p : ℕ) → v ≡ Refused x y p → v ≡ labels_verdict o A P B n
  unfolding labels_verdict
  labels_12 x y p e = e ∙ sym (also_refused _ _ x y p (sym first_is ∙ e))

  pub labels_13 : v ≡ Passed → (g : Option ℕ) → g ≡ late_label_fault o A n → (w : Verdict) → w ≡ finding_verdict LATE_LABELS ASSEMBLED g → w ≡ labels_verdict o A P B n
  unfolding labels_verdict
  labels_13 e g at w q = q ∙ ap (finding_verdict LATE_LABELS ASSEMBLED) at ∙ sym (also_passed _ _ (sym first_is ∙ e))

-- ---- all three

unlined_not : (n o p : ℕ) (s : LateStep) → Refused n o p ≡ Lined s → ⊥
unlined_not n o p s e = let z : ◌≡◌ {A = ℕ} 0 1 = cc in omega arith

lined_same : (s t : LateStep) → Lined s ≡ Lined t → t ≡ s
lined_same s t e = cc

pub runs_is : (P : List Place) (B : List ℕ) (n : ℕ) → n ≡ late_length P B → ltb 0 n ≡ has_late_step P B
runs_is P B n e = ap (ltb 0) e ∙ sym (step_length P B)

step_is : (o : ByteOrder) (A : List ℕ) (P : List Place) (B : List ℕ) (start : Label) → start ≡ label_of o A (late_label (text "_start")) → (ends : List ℕ) → ends ≡ span_ends P B → (size : ℕ) → size ≡ late_length P B
    → ◌≡◌ {A = LateStep} (record { runs = ltb 0 size; length = size; start = start.value; last = get_or ends LATE_TARGET 0 }) (late_step_of o A P B)
unfolding late_step_of late_start
step_is o A P B start l ends q size z = rw (runs_is P B size z, z, l, (ends_code P B ends LATE_TARGET q (omega arith)).1)

module _ (o : ByteOrder) (C A : List ℕ) (P : List Place) (B : List ℕ) (v : Verdict) (is : v ≡ missing_verdict o C A P B) where
  refused_as : (n x p : ℕ) → line_up_verdict o C A P B ≡ Refused n x p → LinesUp o C A P B (Refused n x p)
  unfolding lined_verdict
  refused_as n x p e = record { verdict = sym e; step = λ s q. absurd (unlined_not n x p s q) }

  pub line_up_11 : (n x p : ℕ) → v ≡ Refused n x p → LinesUp o C A P B (Refused n x p)
  unfolding line_up_verdict
  line_up_11 n x p e = refused_as n x p (also_refused _ _ n x p (sym is ∙ e))

  module _ (e : v ≡ Passed) (size : ℕ) (z : size ≡ late_length P B) (w : Verdict) (at : w ≡ labels_verdict o A P B size) where
    labels_at : line_up_verdict o C A P B ≡ w
    unfolding line_up_verdict
    labels_at = also_passed _ _ (sym is ∙ e) ∙ ap (labels_verdict o A P B) (sym z) ∙ sym at

    pub line_up_12 : (n x p : ℕ) → w ≡ Refused n x p → LinesUp o C A P B (Refused n x p)
    line_up_12 n x p t = refused_as n x p (labels_at ∙ t)

    pub line_up_all : w ≡ Passed → (start : Label) → start ≡ label_of o A (late_label (text "_start")) → (ends : List ℕ) → ends ≡ span_ends P B
        → LinesUp o C A P B (Lined (record { runs = ltb 0 size; length = size; start = start.value; last = get_or ends LATE_TARGET 0 }))
    unfolding lined_verdict
    line_up_all t start l ends q = record {
      verdict = sym (labels_at ∙ t);
      step = λ s u. lined_same _ s u ∙ step_is o A P B start l ends q size z;
    }
