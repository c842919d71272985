-- The addend laws, once for all codes and over any width: bytes that the merge does not write are C's, bytes under one span are A's, and late bytes stand where their
-- offset moves to. A late step that does not run is no case apart. Assumes nothing.
use Prim.Native.Nat.{ℕ, ◌+◌, ◌-◌, ◌≤◌, ◌<◌}
use mathlib.Core.Path.{◌≡◌, sym, ap, ◌∙◌}
use mathlib.Core.Bool.{true, false, ◌&&◌}
use mathlib.Core.List.{List}
use native.Mathlib.Omega.{arith}
use lib.ListN.{length, take, drop, length-take, length-drop}
use borrow.Author.Tests.{eqb-true}
use Rattle.base_lists.specs.Rows.{has_row}
use Rattle.base_lists.proofs.Ranges.{by-test, or_parts}
use Rattle.base_lists.proofs.Windows.{part_ext}
use Rattle.base_fields.specs.declared.ByteOrder.{ByteOrder}
use Rattle.base_scope.specs.Codes.{LATE_TARGET, is_late_target}
use Rattle.base_scope.proofs.Codes.{late_is}
use Rattle.blocks_file.specs.Blocks.{block_count}
use Rattle.blocks_places.specs.Lines.{line_count}
use Rattle.blocks_places.specs.Places.{Place, end_at}
use Rattle.blocks_places.specs.Faults.{Fitting}
use Rattle.blocks_spans.specs.Spans.{spans_of, span_at, span_end, is_covered, last_end}
use Rattle.blocks_spans.specs.Copied.{copied}
use Rattle.blocks_spans.proofs.Spans.{end_spans, spans_ascend, span_last}
use Rattle.blocks_spans.proofs.Copied.{length_copied, copied_compiled, copied_under}
use Rattle.late_moves.specs.of_late_length.Late.{has_late_step}
use Rattle.late_moves.specs.Moves.{items, item_length, move_source, move_place, late_step_fault}
use Rattle.late_moves.specs.Moved.{move_covers, zeroes, is_moved, moved_block, moved_item, moved_place, late_rodata}
use Rattle.late_moves.proofs.Moved.{length_late, part_out, front_same, part_late, source_once, start_in, moved_hit, moved_is}
use Rattle.late_moves.proofs.Idle.{idle_rodata}
use Rattle.late_finals.specs.Finals.{final_bytes, is_late_written, is_written}

-- the only late target is .rodata
late_code : (c : ℕ) → is_late_target c ≡ true → c ≡ LATE_TARGET
late_code c t = eqb-true c LATE_TARGET (late_is c ∙ t)

module _ (o : ByteOrder) (P : List Place) (B S T W : List ℕ) (s c : ℕ) where
  -- the section after block copying
  abbrev R : List ℕ
  R = copied (spans_of P B c) S T

  pub final_late : is_late_target c ≡ true → final_bytes o P B S T W s c ≡ late_rodata o P B R s W
  unfolding final_bytes
  final_late t = rw t

  pub final_other : is_late_target c ≡ false → final_bytes o P B S T W s c ≡ R
  unfolding final_bytes
  final_other f = rw f

  pub final_length : length (final_bytes o P B S T W s c) ≡ length S
  final_length = by-test (is_late_target c)
      (λ t. ap length (final_late t) ∙ length_late o P B R s W ∙ length_copied (spans_of P B c) S T)
      (λ f. ap length (final_other f) ∙ length_copied (spans_of P B c) S T)

  -- a late step that does not run leaves block copying's bytes
  pub final_still : has_late_step P B ≡ false → final_bytes o P B S T W s c ≡ R
  final_still idle = by-test (is_late_target c)
      (λ t. final_late t ∙ idle_rodata P B idle o R s W)
      final_other

  -- ---- bytes that are not written

  written_parts : (x : ℕ) → is_written o P B S T c x ≡ false → (is_covered (spans_of P B c) x ≡ false) × ((is_late_target c && is_late_written o P B R x) ≡ false)
  unfolding is_written
  written_parts x f = or_parts (is_covered (spans_of P B c) x) _ f

  late_parts : (x : ℕ) → is_late_written o P B R x ≡ false
      → (has_row (move_covers o P B R x) (items P B) (block_count B) ≡ false) × (has_row (zeroes o P B R x) (items P B) (block_count B) ≡ false)
  unfolding is_late_written
  late_parts x f = or_parts (has_row (move_covers o P B R x) (items P B) (block_count B)) _ f

  copied_own : (x w : ℕ) → ((j : ℕ) → j < w → is_covered (spans_of P B c) (x + j) ≡ false) → take w (drop x R) ≡ take w (drop x S)
  copied_own x w out = part_ext R S x x w
      (rw (length-take w (drop x R), length-take w (drop x S), length-drop, length-drop, length_copied (spans_of P B c) S T))
      (λ i h. copied_compiled (spans_of P B c) S T (x + i) (out i h))

  pub own_part : (x w : ℕ) → x + w ≤ length S → ((j : ℕ) → j < w → is_written o P B S T c (x + j) ≡ false)
      → take w (drop x (final_bytes o P B S T W s c)) ≡ take w (drop x S)
  own_part x w h out = by-test (is_late_target c)
      (λ t.
      let u : (j : ℕ) → j < w → is_late_written o P B R (x + j) ≡ false = λ j g. rw t at (written_parts (x + j) (out j g)).1 in
      let m : x + w ≤ length R = rw (length_copied (spans_of P B c) S T) h in
      ap (λ (l : List ℕ). take w (drop x l)) (final_late t)
      ∙ part_out o P B R s W x w m (λ j g. (late_parts (x + j) (u j g)).0) (λ j g. (late_parts (x + j) (u j g)).1)
      ∙ copied_own x w (λ j g. (written_parts (x + j) (out j g)).0))
      (λ f. ap (λ (l : List ℕ). take w (drop x l)) (final_other f) ∙ copied_own x w (λ j g. (written_parts (x + j) (out j g)).0))

  -- ---- bytes under a span

  -- a span of the late target ends in front of the late step
  span_front : Fitting P B → is_late_target c ≡ true → (r : ℕ) → r < length (spans_of P B c) → span_end (span_at (spans_of P B c) r) ≤ end_at P B (line_count B) LATE_TARGET
  span_front f t r h =
      let e : end_at P B (line_count B) LATE_TARGET ≡ last_end (spans_of P B c) = end_spans P B LATE_TARGET ∙ ap (λ (k : ℕ). last_end (spans_of P B k)) (sym (late_code c t)) in
      omega (arith, e, span_last (spans_of P B c) (spans_ascend P B f c) r h)

  -- which lies inside both sections (refusal 11)
  pub span_part : Fitting P B → (x w r : ℕ) → r < length (spans_of P B c) → (span_at (spans_of P B c) r).place ≤ x → x + w ≤ span_end (span_at (spans_of P B c) r)
      → span_end (span_at (spans_of P B c) r) ≤ length S → span_end (span_at (spans_of P B c) r) ≤ length T
      → take w (drop x (final_bytes o P B S T W s c)) ≡ take w (drop x T)
  span_part f x w r h l u in_c in_a = by-test (is_late_target c)
      (λ t.
      ap (λ (l : List ℕ). take w (drop x l)) (final_late t)
      ∙ front_same o P B R s W x w (rw (length_copied (spans_of P B c) S T) (omega arith)) (omega (arith, span_front f t r h))
      ∙ copied_under (spans_of P B c) S T x w r h l u in_c in_a)
      (λ n. ap (λ (l : List ℕ). take w (drop x l)) (final_other n) ∙ copied_under (spans_of P B c) S T x w r h l u in_c in_a)

  -- ---- late bytes: those of a reference at x stand at the place that x moves to, where all of them lie in one item

  pub late_part_lem : is_late_target c ≡ true → end_at P B (line_count B) LATE_TARGET ≤ length S → late_step_fault o P B R ≡ block_count B
      → (x w i k : ℕ) → is_moved P B s x ≡ true → i < block_count B → k < items P B i
      → move_source P B s i k ≤ x → 0 < w → x + w ≤ move_source P B s i k + item_length B i k → x + w ≤ length W
      → take w (drop (moved_place o P B R s x) (final_bytes o P B S T W s c)) ≡ take w (drop x W)
  late_part_lem y start clear x w i k t h g a v b l =
      let hit = moved_hit P B s x t in
      let r = start_in P B s x (moved_block P B s x) (moved_item P B s x) hit.passes in
      let q = source_once P B s x i k (moved_block P B s x) (moved_item P B s x) g hit.column a (omega arith) r.0 r.1 in
      let e : moved_place o P B R s x ≡ move_place o P B R i k + (x - move_source P B s i k) =
      at_item (moved_block P B s x) (moved_item P B s x) q.0 q.1 (moved_is o P B R s x (moved_block P B s x) (moved_item P B s x) hit.row hit.column hit.passes) in
      rw (e, final_late y) (part_late o P B R s W i k x w (rw (length_copied (spans_of P B c) S T) start) clear h g a b l)
    where
      at_item : (j m : ℕ) → j ≡ i → m ≡ k → moved_place o P B R s x ≡ move_place o P B R j m + (x - move_source P B s j m)
          → moved_place o P B R s x ≡ move_place o P B R i k + (x - move_source P B s i k)
      at_item j m e f y = rw (e, f) at y
