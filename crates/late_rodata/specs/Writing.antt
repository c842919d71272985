-- Of the code, not of document 01: what writing the final .rodata from the end of the last .rodata block copied on relies on, and what it leaves. R is C's .rodata, W are
-- the bytes of A's .late_rodata. What is written is `late_rodata` of the crate late_moves from there on (proofs/Writing.antt, `rest_read_lem`).
use Rattle.std.specs.Prelude.{ℕ, ◌+◌, ◌-◌, ◌≤◌, ◌<◌, ◌≡◌, List, [], length, take, drop}
use Rattle.base_lists.specs.Windows.{spliced}
use Rattle.base_lists.specs.Records.{flat}
use Rattle.base_lists.specs.Pieces.{pieces_from}
use Rattle.base_buffers.specs.Buffers.{zeros}
use Rattle.base_fields.specs.declared.ByteOrder.{ByteOrder}
use Rattle.base_scope.specs.Codes.{LATE_TARGET}
use Rattle.base_scope.specs.Limits.{FILE_LIMIT}
use Rattle.blocks_file.specs.Table.{Parsed}
use Rattle.blocks_places.specs.Lines.{line_count}
use Rattle.blocks_places.specs.Places.{Place, end_at}
use Rattle.blocks_items.specs.Items.{late_length}
use Rattle.late_runs.specs.of_late_walk.Table.{Moves}
use Rattle.late_runs.specs.declared.Run.{Run}
use Rattle.late_runs.specs.declared.Run.TheVariants.{Kept, Late, Zeros}
use Rattle.late_runs.specs.Runs.{run_length}
use Rattle.late_runs.specs.Words.{run_read}

-- a run that begins at x: its source, where it ends there, and its bytes
unfoldable pub run_source : List ℕ → List ℕ → Run → List ℕ
run_source R W (Kept n) = R
run_source R W (Late a n) = W
run_source R W (Zeros n) = []

unfoldable pub run_end : ℕ → Run → ℕ
run_end x (Kept n) = x + n
run_end x (Late a n) = a + n
run_end x (Zeros n) = 0

unfoldable pub run_bytes : List ℕ → List ℕ → ℕ → Run → List ℕ
run_bytes R W x (Kept n) = take n (drop x R)
run_bytes R W x (Late a n) = take n (drop a W)
run_bytes R W x (Zeros n) = zeros n

module _ (o : ByteOrder) (B R W late : List ℕ) (n : ℕ) where
  -- the bytes of the run at k, as it is read in the table of n blocks
  unfoldable pub run_part : ℕ → List ℕ
  run_part k = run_bytes R W k (run_read o B R late k n)

  -- from `last` to the end of .rodata, one run behind the other
  unfoldable pub rest_read : ℕ → List ℕ
  rest_read last = flat (λ (p : List ℕ). p) (pieces_from (λ j. run_part (last + j)) length (length R - last) 0 (length R - last))

-- the late step of places P is accepted, its table is in hand, and the late span, which starts at s, lies inside W; `last` is the end of the last .rodata block copied
pub record Moving (o : ByteOrder) (P : List Place) (B R W table late : List ℕ) (s last : ℕ) : Type 0 where
  pub moves : Moves o P B R s late
  pub parsed : Parsed B table
  pub from : last ≡ end_at P B (line_count B) LATE_TARGET
  pub inside : last ≤ length R
  pub span : s + late_length P B ≤ length W
  pub small : length R ≤ FILE_LIMIT
  pub short : length W ≤ FILE_LIMIT

-- the same of some places and some start: the code that reads the table is given neither
pub record RestInHand (o : ByteOrder) (B R W table late : List ℕ) (last : ℕ) : Type 0 where
  pub places : List Place
  pub start : ℕ
  pub moving : Moving o places B R W table late start last

-- and an offset behind the last .rodata block copied
pub record AtOffset (o : ByteOrder) (B R W table late : List ℕ) (k : ℕ) : Type 0 where
  pub last : ℕ
  pub hand : RestInHand o B R W table late last
  pub past : last ≤ k
  pub inside : k < length R

-- the run at offset k is written behind `at`, and r is where the next one begins
pub record WroteRun (o : ByteOrder) (B R W late : List ℕ) (n at k r : ℕ) (before after : List ℕ) : Type 0 where
  pub next : r ≡ k + run_length (run_read o B R late k n)
  pub bytes : after ≡ spliced before (at + k) (run_part o B R W late n k)
