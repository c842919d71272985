-- Of the code, not of document 01: a run, as it is read in the table of the late step. The words of a block's dummies ascend, so the one over a position is found by
-- binary search. With a table in hand the run that is read is `run_at` (proofs/InHand.antt, `hand_run_at`).
use Rattle.std.specs.Prelude.{ℕ, ◌+◌, ◌-◌, ◌*◌, ◌≤◌, ◌<◌, Bool, ◌&&◌, List, ◌≡◌, length, eqb, leb, ltb}
use Rattle.base_lists.specs.Ranges.{first}
use Rattle.base_fields.specs.declared.ByteOrder.{ByteOrder}
use Rattle.base_scope.specs.Codes.{LATE_TARGET}
use Rattle.base_scope.specs.Limits.{FILE_LIMIT}
use Rattle.blocks_file.specs.Blocks.{block_count}
use Rattle.blocks_file.specs.Table.{Parsed}
use Rattle.late_lookups.specs.of_blocks_places.Lines.{line_count}
use Rattle.late_lookups.specs.of_blocks_places.Places.{Place, end_at}
use Rattle.late_lookups.specs.of_blocks_items.Items.{dummy_count, dummy_word, late_length}
use Rattle.late_dummies.specs.Dummies.{word_at}
use Rattle.late_lookups.specs.of_late_walk.Table.{Moves}
use Rattle.late_lookups.specs.Fields.{SOURCE, DUMMIES, LAST, late_field, late_word, row_dummies, row_past, AtRow}
use Rattle.late_runs.specs.declared.Run.{Run}
use Rattle.late_runs.specs.declared.Run.TheVariants.{Kept, Late, Zeros}
use Rattle.late_runs.specs.Runs.{pick_run}

module _ (late : List ℕ) (i : ℕ) where
  -- dummy k of block i: its place
  unfoldable pub dummy_place : ℕ → ℕ
  dummy_place k = late_word late (late_field late DUMMIES i + k)

  -- its late word ends past x
  unfoldable pub word_past : ℕ → ℕ → Bool
  word_past x k = ltb x (dummy_place k + 4)

  -- the first such dummy of the block; all of them where there is none
  unfoldable pub dummy_over : ℕ → ℕ
  dummy_over x = first (word_past x) 0 (row_dummies late i)

-- a block's words ascend
pub record Rising (late : List ℕ) (i : ℕ) : Type 0 where
  pub row : AtRow late i
  pub rises : (k l : ℕ) → k ≤ l → l < row_dummies late i → dummy_place late i k ≤ dummy_place late i l

-- a dummy k of so many, behind the last place `last`, moved on by 4 to p: it stands right before it
unfoldable pub moved_on : ByteOrder → List ℕ → List ℕ → ℕ → ℕ → ℕ → ℕ → ℕ → Bool
moved_on o B R i count k last p = (eqb k 0 && ltb 1 count) && (leb (last + 4) p && word_at o R (dummy_word B i 0) (p - 4))

-- the bytes from x on before a place p
unfoldable pub gap_to : Bool → ℕ → ℕ → Run
gap_to shifted x p = pick_run shifted (pick_run (leb p (x + 4)) (Zeros (p - x)) (Kept (p - 4 - x))) (Kept (p - x))

-- the run at x, where dummy k of block i is the first whose late word ends past it
unfoldable pub word_run : ByteOrder → List ℕ → List ℕ → List ℕ → ℕ → ℕ → ℕ → ℕ → Run
word_run o B R late i count k x =
    pick_run (leb (dummy_place late i k) x)
    (Late (late_field late SOURCE i + 4 * k + (x - dummy_place late i k)) (dummy_place late i k + 4 - x))
    (gap_to (moved_on o B R i count k (late_field late LAST i) (dummy_place late i k)) x (dummy_place late i k))

-- the run at x, which lies in the jump table of block i: so far before its end as before the end of the block's part
unfoldable pub table_run : List ℕ → ℕ → ℕ → Run
table_run late i x = Late (late_field late SOURCE (i + 1) - (late_field late LAST (i + 1) - x)) (late_field late LAST (i + 1) - x)

module _ (o : ByteOrder) (B R late : List ℕ) (x : ℕ) where
  -- the run at x, where block i is the first that ends past it
  unfoldable pub row_run : ℕ → Run
  row_run i =
      pick_run (ltb (dummy_over late i x) (row_dummies late i))
      (word_run o B R late i (row_dummies late i) (dummy_over late i x) x)
      (table_run late i x)

  -- the run at x, in the table of n blocks
  unfoldable pub run_read : ℕ → Run
  run_read n = pick_run (ltb (row_past late LAST n x) n) (row_run (row_past late LAST n x)) (Kept (length R - x))

-- dummy k of block i in hand
pub record AtWord (B R table late : List ℕ) (i count k x : ℕ) : Type 0 where
  pub rising : Rising late i
  pub parsed : Parsed B table
  pub counted : i < block_count B
  pub dummies : count ≡ dummy_count B i
  pub rows : count ≡ row_dummies late i
  pub inside : k < count
  pub fits : dummy_place late i k + 4 ≤ length R
  pub behind : late_field late LAST i ≤ length R
  pub small : length R ≤ FILE_LIMIT
  pub offset : late_field late SOURCE i ≤ FILE_LIMIT
  pub past : x < dummy_place late i k + 4

-- the late step of places P that is accepted, with the late span at s, its table in hand, and a position at or past the end of the last .rodata block copied
pub record AtRun (o : ByteOrder) (P : List Place) (B R table late : List ℕ) (s x : ℕ) : Type 0 where
  pub moves : Moves o P B R s late
  pub parsed : Parsed B table
  pub starts : end_at P B (line_count B) LATE_TARGET ≤ length R
  pub past : end_at P B (line_count B) LATE_TARGET ≤ x
  pub inside : x < length R
  pub small : length R ≤ FILE_LIMIT
  pub span : s + late_length P B ≤ FILE_LIMIT

-- the same of some places and some start: the code that reads the table is given neither
pub record InHand (o : ByteOrder) (B R table late : List ℕ) (x : ℕ) : Type 0 where
  pub places : List Place
  pub start : ℕ
  pub run : AtRun o places B R table late start x
