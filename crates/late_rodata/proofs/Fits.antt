-- A run of an accepted late step lies inside .rodata and inside its source, and its bytes are that part of the final .rodata. Assumes nothing.
use Prim.Native.Nat.{ℕ, ◌+◌, ◌-◌, ◌≤◌, ◌<◌}
use mathlib.Core.Path.{◌≡◌, refl, sym, ◌∙◌}
use mathlib.Core.List.{List}
use native.Mathlib.Omega.{arith}
use lib.ListN.{length, take, drop, get_or, get_or-replicate}
use lib.Seq.{take_all}
use borrow.Author.Tests.{lt-ltb, le-ltb, le-leb, lt-leb}
use Rattle.base_lists.proofs.Ranges.{by-test, by-lt, sum_mono}
use Rattle.base_lists.proofs.Windows.{part_same}
use Rattle.base_buffers.specs.Buffers.{zeros}
use Rattle.base_buffers.proofs.Buffers.{length_zeros}
use Rattle.base_fields.specs.declared.ByteOrder.{ByteOrder}
use Rattle.base_scope.specs.Codes.{LATE_TARGET}
use Rattle.blocks_file.specs.Blocks.{block_count}
use Rattle.blocks_places.specs.Lines.{line_count}
use Rattle.blocks_places.specs.Places.{Place, end_at}
use Rattle.blocks_items.specs.Items.{late_bytes, late_length}
use Rattle.late_runs.specs.of_late_moves.Moves.{items, item_length, late_source, move_source, move_place, is_shifted, late_step_fault}
use Rattle.late_runs.specs.of_late_moves.Moved.{late_byte, late_rodata}
use Rattle.late_runs.proofs.of_late_moves.Moves.{source_end, place_inside}
use Rattle.late_runs.proofs.of_late_moves.Moved.{length_late, late_at_lem}
use Rattle.late_runs.specs.declared.Run.{Run}
use Rattle.late_runs.specs.declared.Run.TheVariants.{Kept, Late, Zeros}
use Rattle.late_runs.specs.Runs.{run_length, run_byte, run_block, run_item, gap_run, item_run, run_at}
use Rattle.late_runs.proofs.Runs.{IsRun, item_in, item_past, run_is}
use Rattle.late_rodata.specs.Writing.{run_source, run_end, run_bytes}

zero_at_lem : (n j : ℕ) → j < n → get_or (zeros n) (0 + j) 0 ≡ 0
unfolding zeros
zero_at_lem n j h =
    let e : 0 + j ≡ j = omega arith in
    rw e (get_or-replicate n j 0 0 h)

pub record Fits (R W : List ℕ) (x : ℕ) (r : Run) : Type 0 where
  pub inside : x + run_length r ≤ length R
  pub source : run_end x r ≤ length (run_source R W r)

module _ (R W : List ℕ) (x : ℕ) where
  kept : (n : ℕ) → x + n ≤ length R → Fits R W x (Kept n)
  unfolding run_length run_end run_source
  kept n h = record { inside = h; source = h }

  late : (a n : ℕ) → x + n ≤ length R → a + n ≤ length W → Fits R W x (Late a n)
  unfolding run_length run_end run_source
  late a n h g = record { inside = h; source = g }

  blank : (n : ℕ) → x + n ≤ length R → Fits R W x (Zeros n)
  unfolding run_length run_end run_source
  blank n h = record { inside = h; source = omega arith }

  -- the bytes of a run, where they are f's and F holds f's bytes
  pub run_bytes_lem : (F : List ℕ) (f : ℕ → ℕ) (r : Run) → length F ≡ length R → ((y : ℕ) → y < length R → get_or F y 0 ≡ f y) → IsRun R W f x r → Fits R W x r
      → run_bytes R W x r ≡ take (run_length r) (drop x F)
  unfolding run_bytes run_length run_byte run_end run_source
  run_bytes_lem F f (Kept n) long each is fits =
      part_same R F x x n fits.source (rw long fits.inside) (λ j h. sym (is.bytes j h) ∙ sym (each (x + j) (omega (arith, fits.inside))))
  run_bytes_lem F f (Late a n) long each is fits =
      part_same W F a x n fits.source (rw long fits.inside) (λ j h. sym (is.bytes j h) ∙ sym (each (x + j) (omega (arith, fits.inside))))
  run_bytes_lem F f (Zeros n) long each is fits =
      sym (take_all n (zeros n) (omega (arith, length_zeros n)))
      ∙ part_same (zeros n) F 0 x n (omega (arith, length_zeros n)) (rw long fits.inside) (λ j h.
      zero_at_lem n j h ∙ sym (is.bytes j h) ∙ sym (each (x + j) (omega (arith, fits.inside))))

module _ (o : ByteOrder) (P : List Place) (B R W : List ℕ) (s x : ℕ) (clear : late_step_fault o P B R ≡ block_count B) (starts : end_at P B (line_count B) LATE_TARGET ≤ length R)
    (past : end_at P B (line_count B) LATE_TARGET ≤ x) (inside : x < length R) (span : s + late_length P B ≤ length W) where
  -- an item's bytes lie inside A's late span
  source_inside : (i k : ℕ) → i < block_count B → k < items P B i → move_source P B s i k + item_length B i k ≤ length W
  unfolding late_length late_source
  source_inside i k h g = omega (arith, span, source_end P B s i k g, sum_mono (late_bytes P B) (i + 1) (block_count B) (omega arith))

  module _ (i k : ℕ) (h : i < block_count B) (g : k < items P B i) (ends : x < move_place o P B R i k + item_length B i k) where
    gap_fits : x < move_place o P B R i k → Fits R W x (gap_run o P B R x i k)
    unfolding gap_run
    gap_fits u =
        let p = place_inside o P B R starts i k clear h g in
        by-test (is_shifted o P B R i k)
        (λ t. rw t (by-lt (x + 4) (move_place o P B R i k)
        (λ v. rw (lt-leb (move_place o P B R i k) (x + 4) v) (kept R W x (move_place o P B R i k - 4 - x) (omega arith)))
        (λ v. rw (le-leb (move_place o P B R i k) (x + 4) v) (blank R W x (move_place o P B R i k - x) (omega arith)))))
        (λ f. rw f (kept R W x (move_place o P B R i k - x) (omega arith)))

    item_fits : Fits R W x (item_run o P B R s x i k)
    unfolding item_run
    item_fits = by-lt x (move_place o P B R i k)
        (λ u. rw (lt-leb (move_place o P B R i k) x u) (gap_fits u))
        (λ u.
        rw (le-leb (move_place o P B R i k) x u)
        (late R W x (move_source P B s i k + (x - move_place o P B R i k)) (move_place o P B R i k + item_length B i k - x)
        (omega (arith, place_inside o P B R starts i k clear h g)) (omega (arith, source_inside i k h g))))

  pub run_fits : Fits R W x (run_at o P B R s x)
  unfolding run_at
  run_fits = by-lt (run_block o P B R x) (block_count B)
      (λ h.
      let i = run_block o P B R x in
      rw (lt-ltb i (block_count B) h) (item_fits i (run_item o P B R x i) h (item_in o P B R x i refl h past) (item_past o P B R x i refl h past)))
      (λ h. rw (le-ltb (run_block o P B R x) (block_count B) h) (kept R W x (length R - x) (omega arith)))

  pub run_some : 0 < run_length (run_at o P B R s x)
  run_some = (run_is o P B R x s W past inside).some

  pub run_part_lem : run_bytes R W x (run_at o P B R s x) ≡ take (run_length (run_at o P B R s x)) (drop x (late_rodata o P B R s W))
  run_part_lem =
      run_bytes_lem R W x (late_rodata o P B R s W) (late_byte o P B R s W) (run_at o P B R s x) (length_late o P B R s W) (late_at_lem o P B R s W)
      (run_is o P B R x s W past inside) run_fits
