-- Whether the assembled object A lines up with the compiled one and the block file: refusals 11, 12 and 13 in order (document 01's table and "Order"). P are the places of
-- the lines of the block file B.
use Rattle.std.specs.Prelude.{ℕ, ◌&&◌, List, ltb, None, Option}
use Rattle.base_fields.specs.declared.ByteOrder.{ByteOrder}
use Rattle.base_scope.specs.Codes.{LATE_TARGET}
use Rattle.base_scope.specs.Refusals.{BLOCK_LABELS, LATE_LABELS, pick_finding, expect}
use Rattle.base_answers.specs.Answers.{ASSEMBLED}
use Rattle.base_answers.specs.Verdicts.{Verdict, also, finding_verdict}
use Rattle.blocks_places.specs.Places.{Place}
use Rattle.blocks_items.specs.Items.{late_length}
use Rattle.blocks_spans.specs.Spans.{spans_of, last_end}
use Rattle.merge_missing.specs.of_late_length.declared.LateStep.{LateStep}
use Rattle.merge_missing.specs.of_late_length.Late.{has_late_step}
use Rattle.merge_missing.specs.Missing.{missing_verdict}
use Rattle.merge_labels.specs.Labels.{label_fault, late_start, late_lined}

-- refusal 13, of a late length n: asked only where there is a late step, which then has bytes
unfoldable pub late_label_fault : ByteOrder → List ℕ → ℕ → Option ℕ
late_label_fault o A n = pick_finding (ltb 0 n) (expect (late_lined o A n) 0 None) None

-- 12, then 13
unfoldable pub labels_verdict : ByteOrder → List ℕ → List Place → List ℕ → ℕ → Verdict
labels_verdict o A P B n =
    also (finding_verdict BLOCK_LABELS ASSEMBLED (label_fault o A P B))
    (finding_verdict LATE_LABELS ASSEMBLED (late_label_fault o A n))

unfoldable pub line_up_verdict : ByteOrder → List ℕ → List ℕ → List Place → List ℕ → Verdict
line_up_verdict o C A P B = also (missing_verdict o C A P B) (labels_verdict o A P B (late_length P B))

-- the late step that they leave: whether there is one, its length, where its span starts in A's .late_rodata, and where the last span of its target ends in C
unfoldable pub late_step_of : ByteOrder → List ℕ → List Place → List ℕ → LateStep
late_step_of o A P B = record { runs = has_late_step P B; length = late_length P B; start = late_start o A; last = last_end (spans_of P B LATE_TARGET) }
