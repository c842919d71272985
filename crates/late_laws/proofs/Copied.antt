-- The code searches C's own .rodata S, document 01 the one after block copying, R. Block copying changes nothing from the end of the last .rodata span on, and no search
-- looks before it, so what the code answers, leaves in its table and writes behind that end is what document 01 says. T are the bytes of A's .rodata. Assumes nothing.
use Rattle.std.specs.Prelude.{Option}
use Prim.Native.Nat.{ℕ, ◌+◌, ◌-◌, ◌≤◌, ◌<◌}
use mathlib.Core.Path.{◌≡◌, sym, ap, ◌∙◌}
use mathlib.Core.List.{List, ◌++◌}
use native.Mathlib.Omega.{arith}
use lib.ListN.{length, take, drop, length-drop, take-append-drop}
use lib.Seq.{length-take-le}
use Rattle.base_lists.specs.Windows.{spliced}
use Rattle.base_lists.proofs.Windows.{spliced_then}
use Rattle.base_fields.specs.declared.ByteOrder.{ByteOrder}
use Rattle.base_scope.specs.Codes.{LATE_TARGET}
use Rattle.blocks_places.specs.Lines.{line_count}
use Rattle.blocks_places.specs.Places.{Place, end_at}
use Rattle.blocks_places.specs.Faults.{Fitting}
use Rattle.blocks_spans.specs.Spans.{spans_of, last_end}
use Rattle.blocks_spans.specs.Copied.{copied}
use Rattle.blocks_spans.proofs.Spans.{end_spans, spans_ascend}
use Rattle.blocks_spans.proofs.Copied.{length_copied, copied_past}
use Rattle.late_runs.specs.of_late_moves.Moves.{late_step_fault}
use Rattle.late_runs.specs.of_late_moves.Moved.{moved_place, is_jump_word, late_byte, late_rodata}
use Rattle.late_runs.proofs.of_late_moves.Moved.{length_late, front_same}
use Rattle.late_runs.proofs.of_late_moves.Agree.{late_fault_agree, moved_place_agree, jump_word_agree, late_rest_agree}
use Rattle.late_runs.specs.of_late_walk.Table.{Walk, Moves}
use Rattle.late_runs.proofs.of_late_walk.Agree.{walk_agree, moves_agree}
use Rattle.late_runs.specs.Runs.{run_at}
use Rattle.late_runs.proofs.Runs.{IsRun}
use Rattle.late_runs.proofs.Agree.{run_copied}

module _ (o : ByteOrder) (P : List Place) (B S T : List ℕ) (f : Fitting P B) where
  -- .rodata after block copying
  abbrev R : List ℕ
  R = copied (spans_of P B LATE_TARGET) S T

  pub long : length S ≡ length R
  long = sym (length_copied (spans_of P B LATE_TARGET) S T)

  pub agree : drop (end_at P B (line_count B) LATE_TARGET) S ≡ drop (end_at P B (line_count B) LATE_TARGET) R
  agree = rw (end_spans P B LATE_TARGET) (sym (copied_past (spans_of P B LATE_TARGET) S T (spans_ascend P B f LATE_TARGET)))

  -- refusal 14, and the table that the walk leaves
  pub fault_copied : late_step_fault o P B S ≡ late_step_fault o P B R
  fault_copied = late_fault_agree o P B S R long agree

  pub walk_copied : (s : ℕ) (r : Option ℕ) (before after : List ℕ) → Walk o P B S s r before after → Walk o P B R s r before after
  walk_copied = walk_agree o P B S R long agree

  pub moves_copied : (s : ℕ) (late : List ℕ) → Moves o P B S s late → Moves o P B R s late
  moves_copied = moves_agree o P B S R long agree

  -- the place of a late offset, and the words of jump tables
  pub place_copied : (s x : ℕ) → moved_place o P B S s x ≡ moved_place o P B R s x
  place_copied = moved_place_agree o P B S R long agree

  pub jump_copied : (x : ℕ) → is_jump_word o P B S x ≡ is_jump_word o P B R x
  jump_copied = jump_word_agree o P B S R long agree

  module _ (s : ℕ) (W : List ℕ) where
    -- the runs of the final .rodata
    pub runs_copied : (x : ℕ) → end_at P B (line_count B) LATE_TARGET ≤ x → x < length R → IsRun R W (late_byte o P B R s W) x (run_at o P B S s x)
    runs_copied = run_copied o P B S R long agree s W

    -- the final .rodata from the end of the last .rodata block copied on
    pub rest_copied : drop (end_at P B (line_count B) LATE_TARGET) (late_rodata o P B S s W) ≡ drop (end_at P B (line_count B) LATE_TARGET) (late_rodata o P B R s W)
    rest_copied = late_rest_agree o P B S R long agree s W

    -- in front of that end it is what block copying makes, so both together are the whole
    module _ (last : ℕ) (from : last ≡ last_end (spans_of P B LATE_TARGET)) (inside : last ≤ length S) where
      ends : last ≡ end_at P B (line_count B) LATE_TARGET
      ends = from ∙ sym (end_spans P B LATE_TARGET)

      front : take last (late_rodata o P B R s W) ≡ take last R
      front = front_same o P B R s W 0 last (omega (arith, long)) (omega (arith, ends))

      rest : drop last (late_rodata o P B S s W) ≡ drop last (late_rodata o P B R s W)
      rest = rw ends rest_copied

      pub rodata_copied : take last R ++ drop last (late_rodata o P B S s W) ≡ late_rodata o P B R s W
      rodata_copied = rw (← front, rest) (take-append-drop last (late_rodata o P B R s W))

      -- written one behind the other at `at`
      pub rodata_written : (at : ℕ) (before mid after : List ℕ) → at + length S ≤ length before → mid ≡ spliced before at (take last R)
          → after ≡ spliced mid (at + last) (drop last (late_rodata o P B S s W)) → after ≡ spliced before at (late_rodata o P B R s W)
      rodata_written at before mid after room e g =
          let a : length (take last R) ≡ last = length-take-le last R (omega (arith, long)) in
          let b : length (drop last (late_rodata o P B S s W)) ≡ length S - last =
          length-drop last (late_rodata o P B S s W) ∙ ap (λ (n : ℕ). n - last) (length_late o P B S s W) in
          g
          ∙ ap (λ (x : List ℕ). spliced x (at + last) (drop last (late_rodata o P B S s W))) e
          ∙ spliced_then before at (take last R) (drop last (late_rodata o P B S s W)) (at + last) (ap (λ (i : ℕ). at + i) (sym a)) (omega (arith, b))
          ∙ ap (spliced before at) rodata_copied
