-- Of the code, not of document 01: what is in hand to carry the entries of the compiled object C and of the assembled one A behind the symbol merge. B is the block file, whose
-- places stand in the buffer of places.
use Rattle.std.specs.Prelude.{ℕ, ◌≤◌, ◌≡◌, true, false, List, length}
use Rattle.base_fields.specs.declared.ByteOrder.{ByteOrder}
use Rattle.base_scope.specs.Codes.{TEXT, LATE_TARGET}
use Rattle.base_answers.specs.Answers.{COMPILED, ASSEMBLED}
use Rattle.base_answers.specs.Verdicts.{Verdict, also, finding_verdict}
use Rattle.elf_readers.specs.Readers.{coded_contents}
use Rattle.elf_check.specs.View.{Viewed}
use Rattle.blocks_file.specs.Blocks.{block_count}
use Rattle.blocks_places.specs.Lines.{line_count}
use Rattle.blocks_places.specs.Places.{Place}
use Rattle.blocks_places.specs.Table.{places_in}
use Rattle.blocks_spans.specs.Spans.{spans_of}
use Rattle.blocks_spans.specs.Table.{spans_in, Rows}
use Rattle.blocks_spans.specs.Copied.{copied}
use Rattle.late_length.specs.Late.{has_late_step}
use Rattle.late_walk.specs.Table.{Moves}
use Rattle.base_buffers.specs.Parts.{KeptBefore}
use Rattle.merge_buffers.specs.Buffers.{STEP_BUFFER, INDEX_BUFFER, places_part, late_step_part, numbers_part}
use Rattle.merge_labels.specs.Labels.{late_start}
use Rattle.symbols_stage.specs.of_merge_sections.declared.Stage.{Stage}
use Rattle.merge_kept.specs.Kept.{kept}
use Rattle.carry_entries.specs.of_symbols_ids.Ids.{merge_candidates}
use Rattle.symbols_numbers.specs.Result.{NumbersOf}
use Rattle.symbols_stage.specs.declared.Manner.{Manner}
use Rattle.carry_entries.specs.declared.Side.{Side}
use Rattle.carry_entries.specs.Entries.{loss_finding}
use Rattle.carry_entries.specs.Carried.{LOST_ENTRY, carry_verdict}
use Rattle.carry_entries.specs.Code.{carrying_in, EntriesRead}
use Rattle.carry_homes.specs.declared.Homes.{Homes}
use Rattle.carry_homes.specs.Code.{HomesFound}
use Rattle.carry_stage.specs.declared.Carry.{Carry}
use Rattle.carry_stage.specs.Tables.{CARRY_SPANS_AT, HOMES_AT, text_spans_part, homes_part}

-- ---- what is made ready

-- the n rows of .text's spans, in the index
pub record TextSpansLeft (B places : List ℕ) (n : ℕ) (before after : List ℕ) : Type 0 where
  pub rows : Rows (text_spans_part after) n
  pub replaced : spans_in (text_spans_part after) n ≡ spans_of (places_in (places_part places) (line_count B)) B TEXT
  pub kept : KeptBefore CARRY_SPANS_AT before after

-- the homes of A's tables, in the buffer of places
pub record HomesLeft (o : ByteOrder) (C A : List ℕ) (stay : ℕ) (h : Homes) (before after : List ℕ) : Type 0 where
  pub found : HomesFound o C A stay h (homes_part after)
  pub kept : KeptBefore HOMES_AT before after

-- how many of C's sections stay, the spans of .text and the homes, with the places in one buffer
pub record CarryHeld (C A B : List ℕ) (s : Stage) (flag : ℕ) (k : Carry) (places index : List ℕ) : Type 0 where
  pub stays : k.stay ≡ kept s.inputs.order C flag
  pub rows : Rows (text_spans_part index) k.spans
  pub replaced : spans_in (text_spans_part index) k.spans ≡ spans_of (places_in (places_part places) (line_count B)) B TEXT
  pub found : HomesFound s.inputs.order C A k.stay k.homes (homes_part places)

-- and the tables of the stages before stay
pub record CarryMade (C A B : List ℕ) (s : Stage) (flag : ℕ) (k : Carry) (places placesAfter index index_after : List ℕ) : Type 0 where
  pub held : CarryHeld C A B s flag k placesAfter index_after
  pub kept_places : KeptBefore HOMES_AT places placesAfter
  pub kept_index : KeptBefore CARRY_SPANS_AT index index_after

-- ---- both objects

-- what is in hand of C, and of A, whose ids come behind C's
unfoldable pub side_of_c : Stage → Carry → Side
side_of_c s k = record {
  compiled = true;
  order = s.inputs.order;
  view = s.inputs.compiled;
  spans = k.spans;
  runs = s.step.runs;
  blocks = s.inputs.blocks;
  first = 0;
}

unfoldable pub side_of_a : Stage → Carry → Side
side_of_a s k = record {
  compiled = false;
  order = s.inputs.order;
  view = s.inputs.assembled;
  spans = k.spans;
  runs = s.step.runs;
  blocks = s.inputs.blocks;
  first = s.inputs.compiled.symbols.count;
}

-- refusal 20 by it (proofs/Stage.antt, `carry_verdict_is`: carry_verdict)
unfoldable pub carry_verdict_in : List ℕ → List ℕ → Stage → Carry → List ℕ → List ℕ → List ℕ → Verdict
carry_verdict_in C A s k rows late N =
    also (finding_verdict LOST_ENTRY COMPILED (loss_finding s.inputs.order C (carrying_in C (side_of_c s k) rows late N)))
    (finding_verdict LOST_ENTRY ASSEMBLED (loss_finding s.inputs.order A (carrying_in A (side_of_a s k) rows late N)))

-- the entries of both can be read, by the tables in the buffers
pub record SidesRead (C A : List ℕ) (s : Stage) (k : Carry) (steps index : List ℕ) : Type 0 where
  pub compiled : EntriesRead C (side_of_c s k) (text_spans_part index) (late_step_part steps) (numbers_part index)
  pub assembled : EntriesRead A (side_of_a s k) (text_spans_part index) (late_step_part steps) (numbers_part index)
  pub steps_long : STEP_BUFFER ≤ length steps
  pub index_long : INDEX_BUFFER ≤ length index

-- and what stands there is of C, A and the places P of the lines of B: both objects by their views, the spans of .text, the late step over the copied late target, and the
-- numbers of the ids
pub record CarryRead (C A : List ℕ) (P : List Place) (B : List ℕ) (s : Stage) (w : Manner) (k : Carry) (steps index : List ℕ) : Type 0 where
  pub compiled : Viewed s.inputs.order C s.inputs.compiled
  pub assembled : Viewed s.inputs.order A s.inputs.assembled
  pub many : s.inputs.blocks ≡ block_count B
  pub rows : Rows (text_spans_part index) k.spans
  pub replaced : spans_in (text_spans_part index) k.spans ≡ spans_of P B TEXT
  pub there : s.step.runs ≡ has_late_step P B
  pub moves : s.step.runs ≡ true
      → Moves s.inputs.order P B (copied (spans_of P B LATE_TARGET) (coded_contents s.inputs.order C LATE_TARGET) (coded_contents s.inputs.order A LATE_TARGET))
      (late_start s.inputs.order A) (late_step_part steps)
  pub numbers : NumbersOf (merge_candidates s.inputs.order C A P B w.mode w.head) (numbers_part index)
  pub steps_long : STEP_BUFFER ≤ length steps
  pub index_long : INDEX_BUFFER ≤ length index

-- refusal 20 as it is answered: by the tables in hand, and so document 01's of all P, B and manners that they are of
pub record CarryJudged (C A : List ℕ) (s : Stage) (k : Carry) (v : Verdict) (steps index : List ℕ) : Type 0 where
  pub read : v ≡ carry_verdict_in C A s k (text_spans_part index) (late_step_part steps) (numbers_part index)
  pub is : (P : List Place) (B : List ℕ) (w : Manner) → CarryRead C A P B s w k steps index → v ≡ carry_verdict s.inputs.order C A P B w.mode w.head
