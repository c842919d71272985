-- What holds of two objects and a block file that refusals 11 to 13 pass. proofs/Agrees.antt derives it.
use Rattle.std.specs.Prelude.{ℕ, ◌+◌, ◌≤◌, ◌<◌, ◌≡◌, true, List, length}
use Rattle.base_fields.specs.declared.ByteOrder.{ByteOrder}
use Rattle.base_scope.specs.Codes.{LATE_RODATA}
use Rattle.elf_readers.specs.Readers.{coded_contents}
use Rattle.blocks_places.specs.Lines.{line_count}
use Rattle.blocks_places.specs.Places.{Place, taken}
use Rattle.blocks_items.specs.Items.{late_length}
use Rattle.merge_missing.specs.of_late_length.Late.{has_late_step}
use Rattle.merge_missing.specs.Complete.{Complete}
use Rattle.merge_labels.specs.Labels.{is_lined, late_start, late_lined}

pub record Agrees (o : ByteOrder) (C A : List ℕ) (P : List Place) (B : List ℕ) : Type 0 where
  -- 11: the sections are there and hold the spans
  pub complete : Complete o C A P B
  -- 12: every span has its labels in A
  pub labels : (j : ℕ) → j < line_count B → taken P j ≡ true → is_lined o A P B j ≡ true
  -- 13: the late labels stand in A's .late_rodata, and the late span lies inside it
  pub late_labels : has_late_step P B ≡ true → late_lined o A (late_length P B) ≡ true
  pub late_inside : has_late_step P B ≡ true → late_start o A + late_length P B ≤ length (coded_contents o A LATE_RODATA)
