-- The laws of writing the final .rodata: zeros, one run, and the runs one behind the other, which are the final .rodata from the end of the last .rodata block copied on.
-- Assumes nothing.
use Prim.Native.Nat.{ℕ, ◌+◌, ◌-◌, ◌≤◌, ◌<◌}
use mathlib.Core.Path.{◌≡◌, refl, ap, ◌∙◌}
use mathlib.Core.List.{List, ◌++◌}
use native.Mathlib.Omega.{arith}
use lib.ListN.{length, take, drop, length-drop}
use lib.Seq.{drop-drop}
use Rattle.base_lists.specs.Windows.{spliced}
use Rattle.base_lists.proofs.Windows.{length_part}
use Rattle.base_lists.proofs.Pieces.{Begun, begun_none, begun_next, begun_end, pieces_whole}
use Rattle.base_buffers.specs.Buffers.{zeros}
use Rattle.base_buffers.proofs.Buffers.{length_zeros}
use Rattle.base_fields.specs.declared.ByteOrder.{ByteOrder}
use Rattle.base_scope.specs.Codes.{LATE_TARGET}
use Rattle.blocks_file.specs.Blocks.{block_count}
use Rattle.blocks_places.specs.Lines.{line_count}
use Rattle.blocks_places.specs.Places.{Place, end_at}
use Rattle.late_runs.specs.of_late_moves.Moved.{late_rodata}
use Rattle.late_runs.proofs.of_late_moves.Moved.{length_late}
use Rattle.late_runs.specs.declared.Run.{Run}
use Rattle.late_runs.specs.declared.Run.TheVariants.{Kept, Late, Zeros}
use Rattle.late_runs.specs.Runs.{run_length, run_at}
use Rattle.late_runs.specs.Words.{run_read, AtRun, InHand}
use Rattle.late_runs.proofs.InHand.{hand_run_at}
use Rattle.late_rodata.specs.Writing.{run_source, run_end, run_bytes, run_part, rest_read, Moving, RestInHand, AtOffset, WroteRun}
use Rattle.late_rodata.proofs.Fits as fit

-- ---- zeros

-- a part that is zeroed and put back
pub zeros_put : (l part : List ℕ) (a k n : ℕ) → a + n ≤ length l → k ≡ n → part ≡ zeros (length (take k (drop a l)))
    → take a l ++ (part ++ drop k (drop a l)) ≡ spliced l a (zeros n)
unfolding spliced
zeros_put l part a k n h q e =
    let d : length (take n (drop a l)) ≡ n = length_part l a n h in
    rw (e, q, d, length_zeros n, drop-drop n a l)

-- ---- a run that is told by its kind

module _ (R W : List ℕ) (x at : ℕ) (r : Run) where
  module _ (n : ℕ) (e : r ≡ Kept n) where
    pub kept_fits : run_end x r ≤ length (run_source R W r) → x + n ≤ length R
    unfolding run_end run_source
    kept_fits h = rw e at h

    pub kept_room : (m : ℕ) → at + run_length r ≤ m → at + n ≤ m
    unfolding run_length
    kept_room m h = rw e at h

    pub kept_wrote : (before after : List ℕ) → after ≡ spliced before at (take (x + n - x) (drop x R))
        → (n ≡ run_length r) × (after ≡ spliced before at (run_bytes R W x r))
    unfolding run_length run_bytes
    kept_wrote before after q =
        let z : x + n - x ≡ n = omega arith in
        rw e (refl, q ∙ rw z)

  module _ (a n : ℕ) (e : r ≡ Late a n) where
    pub late_fits : run_end x r ≤ length (run_source R W r) → a + n ≤ length W
    unfolding run_end run_source
    late_fits h = rw e at h

    pub late_room : (m : ℕ) → at + run_length r ≤ m → at + n ≤ m
    unfolding run_length
    late_room m h = rw e at h

    pub late_wrote : (before after : List ℕ) → after ≡ spliced before at (take (a + n - a) (drop a W))
        → (n ≡ run_length r) × (after ≡ spliced before at (run_bytes R W x r))
    unfolding run_length run_bytes
    late_wrote before after q =
        let z : a + n - a ≡ n = omega arith in
        rw e (refl, q ∙ rw z)

  module _ (n : ℕ) (e : r ≡ Zeros n) where
    pub zeros_room : (m : ℕ) → at + run_length r ≤ m → at + n ≤ m
    unfolding run_length
    zeros_room m h = rw e at h

    pub zeros_wrote : (before after : List ℕ) → after ≡ spliced before at (zeros n) → (n ≡ run_length r) × (after ≡ spliced before at (run_bytes R W x r))
    unfolding run_length run_bytes
    zeros_wrote before after q = rw e (refl, q)

-- ---- the runs from the end of the last .rodata block copied on

module _ (o : ByteOrder) (P : List Place) (B R W table late : List ℕ) (s last : ℕ) (y : Moving o P B R W table late s last) (n : ℕ) (counted : n ≡ block_count B) where
  starts : end_at P B (line_count B) LATE_TARGET ≤ length R
  starts = omega (arith, y.from, y.inside)

  module _ (k : ℕ) (l : last ≤ k) (h : k < length R) where
    past : end_at P B (line_count B) LATE_TARGET ≤ k
    past = omega (arith, y.from)

    pub at_run : AtRun o P B R table late s k
    at_run = record {
      moves = y.moves;
      parsed = y.parsed;
      starts = starts;
      past = past;
      inside = h;
      small = y.small;
      span = omega (arith, y.span, y.short);
    }

    -- the run that is read is the definition's
    read_is : run_read o B R late k n ≡ run_at o P B R s k
    read_is = rw counted (hand_run_at o P B R table late s k at_run)

    pub run_fits : fit.Fits R W k (run_read o B R late k n)
    run_fits = rw read_is (fit.run_fits o P B R W s k y.moves.clear starts past h y.span)

    pub run_some : 0 < run_length (run_read o B R late k n)
    run_some = rw read_is (fit.run_some o P B R W s k y.moves.clear starts past h y.span)

    part_is : run_part o B R W late n k ≡ take (run_length (run_read o B R late k n)) (drop k (late_rodata o P B R s W))
    unfolding run_part
    part_is = rw read_is (fit.run_part_lem o P B R W s k y.moves.clear starts past h y.span)

    part_long : length (run_part o B R W late n k) ≡ run_length (run_read o B R late k n)
    part_long =
        ap length part_is
        ∙ length_part (late_rodata o P B R s W) k (run_length (run_read o B R late k n)) (omega (arith, length_late o P B R s W, run_fits.inside))

  rest_long : length (drop last (late_rodata o P B R s W)) ≡ length R - last
  rest_long = rw (length-drop last (late_rodata o P B R s W), length_late o P B R s W)

  -- what is written is the final .rodata from `last` on
  pub rest_read_lem : rest_read o B R W late n last ≡ drop last (late_rodata o P B R s W)
  unfolding rest_read
  rest_read_lem =
      let F = late_rodata o P B R s W in
      pieces_whole (λ (p : List ℕ). p) length (λ j. run_part o B R W late n (last + j)) (drop last F) (length R - last) rest_long
      (λ j h.
      let u : last + j < length R = omega arith in
      let v : last ≤ last + j = omega arith in
      rw (part_long (last + j) v u) (run_some (last + j) v u))
      (λ j h.
      let u : last + j < length R = omega arith in
      let v : last ≤ last + j = omega arith in
      part_is (last + j) v u ∙ rw (← part_long (last + j) v u, drop-drop j last F))

-- ---- writing them

-- the bytes of F, which is to stand behind `last`, are written up to k behind `at`
pub record Going (F : List ℕ) (at last : ℕ) (before : List ℕ) (k : ℕ) (after : List ℕ) : Type 0 where
  pub past : last ≤ k
  pub begun : Begun F (at + last) before (k - last) after

pub going_none : (F : List ℕ) (at last : ℕ) (before : List ℕ) → Going F at last before last before
going_none F at last before =
    let z : 0 ≡ last - last = omega arith in
    record { past = omega arith; begun = rw (← z) (begun_none F (at + last) before) }

-- one run
module _ (o : ByteOrder) (B R W table late : List ℕ) (k : ℕ) (z : AtOffset o B R W table late k) where
  pub offset_hand : InHand o B R table late k
  offset_hand = record {
    places = z.hand.places;
    start = z.hand.start;
    run = at_run o z.hand.places B R W table late z.hand.start z.last z.hand.moving (block_count B) refl k z.past z.inside;
  }

  module _ (n : ℕ) (counted : n ≡ block_count B) (r : Run) (is : r ≡ run_read o B R late k n) where
    offset_fits : fit.Fits R W k r
    offset_fits = rw is (run_fits o z.hand.places B R W table late z.hand.start z.last z.hand.moving n counted k z.past z.inside)

    pub run_ends : run_end k r ≤ length (run_source R W r)
    run_ends = offset_fits.source

    pub run_room : k + run_length r ≤ length R
    run_room = offset_fits.inside

    pub run_wrote : (at x : ℕ) (before after : List ℕ) → (x ≡ run_length r) × (after ≡ spliced before (at + k) (run_bytes R W k r))
        → WroteRun o B R W late n at k (k + x) before after
    unfolding run_part
    run_wrote at x before after e = record {
      next = ap (λ (i : ℕ). k + i) (e.0 ∙ ap run_length is);
      bytes = e.1 ∙ ap (λ (q : Run). spliced before (at + k) (run_bytes R W k q)) is;
    }

-- all
module _ (o : ByteOrder) (B R W table late : List ℕ) (last : ℕ) (z : RestInHand o B R W table late last) (n : ℕ) (counted : n ≡ block_count B) where
  all_long : length (rest_read o B R W late n last) ≡ length R - last
  all_long =
      ap length (rest_read_lem o z.places B R W table late z.start last z.moving n counted)
      ∙ rest_long o z.places B R W table late z.start last z.moving n counted

  module _ (k : ℕ) (l : last ≤ k) (h : k < length R) where
    pub rest_offset : AtOffset o B R W table late k
    rest_offset = record { last = last; hand = z; past = l; inside = h }

    -- a turn goes on, and adds the run at k
    module _ (at r : ℕ) (m after : List ℕ) (step : WroteRun o B R W late n at k r m after) where
      pub rest_more : k < r
      rest_more = omega (arith, step.next, run_some o z.places B R W table late z.start last z.moving n counted k l h)

      pub rest_next : (before : List ℕ) → at + length R ≤ length before → Going (rest_read o B R W late n last) at last before k m
          → Going (rest_read o B R W late n last) at last before r after
      rest_next before room so_far =
          let P = z.places in
          let s = z.start in
          let F = rest_read o B R W late n last in
          let i : ℕ = run_length (run_read o B R late k n) in
          let a : at + last + length F ≤ length before = omega (arith, z.moving.inside, all_long) in
          let b : k - last + i ≤ length F = omega (arith, (run_fits o P B R W table late s last z.moving n counted k l h).inside, all_long) in
          let p : last + (k - last) ≡ k = omega arith in
          let q : at + k ≡ at + last + (k - last) = omega arith in
          let d : drop (k - last) F ≡ drop k (late_rodata o P B R s W) =
          ap (drop (k - last)) (rest_read_lem o P B R W table late s last z.moving n counted)
          ∙ drop-drop (k - last) last (late_rodata o P B R s W)
          ∙ ap (λ (j : ℕ). drop j (late_rodata o P B R s W)) p in
          let e : after ≡ spliced m (at + last + (k - last)) (take i (drop (k - last) F)) =
          step.bytes ∙ rw (part_is o P B R W table late s last z.moving n counted k l h, d, q) in
          let x : k - last + i ≡ r - last = omega (arith, step.next) in
          record { past = omega (arith, rest_more); begun = rw (← x) (begun_next F (at + last) before (k - last) m so_far.begun i after a b e) }

  pub rest_end : (at k : ℕ) (before after : List ℕ) → length R ≤ k → Going (rest_read o B R W late n last) at last before k after
      → after ≡ spliced before (at + last) (rest_read o B R W late n last)
  rest_end at k before after h so_far =
      begun_end (rest_read o B R W late n last) (at + last) before (k - last) after so_far.begun (omega (arith, all_long))
