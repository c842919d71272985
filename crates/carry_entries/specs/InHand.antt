-- Of the code, not of document 01: what is in hand is that of C and A, and of the places P of the lines of the block file B.
use Rattle.std.specs.Prelude.{ℕ, ◌≡◌, true, false, List}
use Rattle.base_scope.specs.Codes.{TEXT, LATE_TARGET}
use Rattle.elf_readers.specs.Readers.{coded_contents}
use Rattle.elf_check.specs.View.{view_of}
use Rattle.blocks_file.specs.Blocks.{block_count}
use Rattle.blocks_places.specs.Places.{Place}
use Rattle.blocks_spans.specs.Spans.{spans_of}
use Rattle.blocks_spans.specs.Table.{spans_in}
use Rattle.blocks_spans.specs.Copied.{copied}
use Rattle.late_length.specs.Late.{has_late_step}
use Rattle.carry_clash.specs.of_late_walk.Table.{Moves}
use Rattle.carry_clash.specs.of_merge_labels.Labels.{late_start}
use Rattle.symbols_fill.specs.of_symbols_ids.Ids.{first_a}
use Rattle.carry_entries.specs.declared.Side.{Side}

-- the rows are the spans of .text, and the table is that of the late step over the copied late target, where it runs
pub record CarryHand (C A : List ℕ) (P : List Place) (B : List ℕ) (s : Side) (rows late : List ℕ) : Type 0 where
  pub replaced : spans_in rows s.spans ≡ spans_of P B TEXT
  pub there : s.runs ≡ has_late_step P B
  pub many : s.blocks ≡ block_count B
  pub moves : s.runs ≡ true
      → Moves s.order P B (copied (spans_of P B LATE_TARGET) (coded_contents s.order C LATE_TARGET) (coded_contents s.order A LATE_TARGET)) (late_start s.order A) late

-- the object is C; it is A
pub record CompiledSide (C : List ℕ) (s : Side) : Type 0 where
  pub here : s.compiled ≡ true
  pub start : s.first ≡ 0
  pub is : s.view ≡ view_of s.order C

pub record AssembledSide (C A : List ℕ) (s : Side) : Type 0 where
  pub here : s.compiled ≡ false
  pub start : s.first ≡ first_a s.order C A
  pub is : s.view ≡ view_of s.order A
