-- What the merge writes over C's sections (document 01, "Merge"), and what the late step finds. C is the compiled object, A the assembled one, P are the places of the lines
-- of the block file B.
use Rattle.std.specs.Prelude.{ℕ, List, None, Option}
use Rattle.base_fields.specs.declared.ByteOrder.{ByteOrder}
use Rattle.base_scope.specs.Codes.{LATE_RODATA, REGINFO, LATE_TARGET}
use Rattle.base_scope.specs.Refusals.{pick_finding, found_below}
use Rattle.elf_readers.specs.Readers.{coded_contents}
use Rattle.blocks_file.specs.Blocks.{block_count}
use Rattle.blocks_places.specs.Places.{Place}
use Rattle.blocks_spans.specs.Spans.{spans_of}
use Rattle.blocks_spans.specs.Copied.{copied}
use Rattle.copy_registers.specs.Reginfo.{joined}
use Rattle.late_finals.specs.of_late_length.Late.{has_late_step}
use Rattle.late_finals.specs.of_late_moves.Moves.{late_step_fault}
use Rattle.late_finals.specs.Finals.{final_bytes}
use Rattle.merge_line_up.specs.of_merge_labels.Labels.{late_start}

-- refusal 14, of a late step that searches R: the first block at fault; none where there is no late step
unfoldable pub step_finding : ByteOrder → List Place → List ℕ → List ℕ → Option ℕ
step_finding o P B R = pick_finding (has_late_step P B) (found_below (block_count B) (late_step_fault o P B R)) None

module _ (o : ByteOrder) (C A : List ℕ) (P : List Place) (B : List ℕ) where
  -- it searches the late target after block copying
  unfoldable pub late_finding : Option ℕ
  late_finding = step_finding o P B (copied (spans_of P B LATE_TARGET) (coded_contents o C LATE_TARGET) (coded_contents o A LATE_TARGET))

  -- C's section of code c, after block copying and, in the late target, the late moves; no bytes where C has none
  unfoldable pub result_section : ℕ → List ℕ
  result_section c = final_bytes o P B (coded_contents o C c) (coded_contents o A c) (coded_contents o A LATE_RODATA) (late_start o A) c

-- C's .reginfo with A's ORed into it
unfoldable pub register_bytes : ByteOrder → List ℕ → List ℕ → List ℕ
register_bytes o C A = joined (coded_contents o C REGINFO) (coded_contents o A REGINFO)
