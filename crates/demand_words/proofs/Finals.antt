-- The addend laws on the sections of the result: of four bytes or any width, those that the merge does not write are C's, those under one span are A's, and late ones stand where
-- their offset moves to. Assumes nothing.
use Prim.Native.Nat.{ℕ, ◌+◌, ◌≤◌, ◌<◌}
use mathlib.Core.Path.{◌≡◌, ap, ◌∙◌}
use mathlib.Core.Bool.{true}
use mathlib.Core.List.{List}
use native.Mathlib.Omega.{arith}
use lib.ListN.{length, take, drop}
use borrow.Author.Tests.{eqb-true}
use Rattle.base_lists.specs.Ranges.{first}
use Rattle.base_lists.proofs.Ranges.{by-test, by-lt, none_first}
use Rattle.base_fields.specs.declared.ByteOrder.{ByteOrder}
use Rattle.base_scope.specs.Codes.{BSS, LATE_RODATA, LATE_TARGET, section_codes, holds_bytes, is_late_target}
use Rattle.base_scope.proofs.Codes.{late_is, late_target_lem}
use Rattle.elf_readers.specs.Readers.{coded_contents}
use Rattle.blocks_file.specs.Blocks.{block_count}
use Rattle.blocks_places.specs.Lines.{line_count}
use Rattle.blocks_places.specs.Places.{Place, places_of, end_at}
use Rattle.blocks_places.specs.Faults.{Placed, placing}
use Rattle.blocks_items.specs.Items.{late_length}
use Rattle.blocks_spans.specs.Spans.{spans_of, span_at, span_end}
use Rattle.blocks_spans.specs.Copied.{copied}
use Rattle.blocks_spans.proofs.Spans.{end_spans, last_by}
use Rattle.blocks_spans.proofs.Copied.{length_copied, copied_under}
use Rattle.late_length.specs.Late.{has_late_step}
use Rattle.late_moves.specs.Moves.{items, item_length, late_source, move_source, late_step_fault}
use Rattle.late_moves.specs.Moved.{is_moved}
use Rattle.late_moves.proofs.Moves.{source_mono, source_end}
use Rattle.late_moves.proofs.Moved.{front_same}
use Rattle.late_finals.specs.Finals.{is_written}
use Rattle.late_finals.proofs.Finals.{final_late, final_other, own_part, late_part_lem}
use Rattle.merge_labels.specs.Labels.{late_start}
use Rattle.merge_line_up.specs.Agrees.{Agrees}
use Rattle.merge_verdict.specs.of_merge_sections.Sections.{result_section}
use Rattle.merge_verdict.proofs.of_merge_sections.Sections.{target_holds}
use Rattle.symbols_ids.specs.Entries.{late_place}
use Rattle.demand_words.proofs.Ends.{span_ends_lem}

-- the codes below .bss hold bytes
pub front_holds : (c : ℕ) → 1 ≤ c → c < BSS → holds_bytes c ≡ true
unfolding holds_bytes section_codes
front_holds c l h = by-lt c 2
    (λ a. let e : c ≡ 1 = omega arith in rw e)
    (λ a. by-lt c 3 (λ b. let e : c ≡ 2 = omega arith in rw e) (λ b. let e : c ≡ 3 = omega arith in rw e))

-- ---- bytes that are not written

pub own_result : (o : ByteOrder) (C A : List ℕ) (P : List Place) (B : List ℕ) (c x w : ℕ) → x + w ≤ length (coded_contents o C c)
    → first (λ j. is_written o P B (coded_contents o C c) (coded_contents o A c) c (x + j)) 0 w ≡ w
    → take w (drop x (result_section o C A P B c)) ≡ take w (drop x (coded_contents o C c))
unfolding result_section
own_result o C A P B c x w h e =
    let S : List ℕ = coded_contents o C c in
    let T : List ℕ = coded_contents o A c in
    own_part o P B S T (coded_contents o A LATE_RODATA) (late_start o A) c x w h
    (λ j l. none_first (λ j. is_written o P B S T c (x + j)) 0 w j e (omega arith) l)

-- ---- bytes under a span

module _ (o : ByteOrder) (C A B : List ℕ) (all : placing o C B ≡ Placed) where
  abbrev P : List Place
  P = places_of o C B

  -- span r of code c, inside both sections
  pub span_result : (c x w r : ℕ) → r < length (spans_of P B c) → (span_at (spans_of P B c) r).place ≤ x → x + w ≤ span_end (span_at (spans_of P B c) r)
      → span_end (span_at (spans_of P B c) r) ≤ length (coded_contents o C c) → span_end (span_at (spans_of P B c) r) ≤ length (coded_contents o A c)
      → take w (drop x (result_section o C A P B c)) ≡ take w (drop x (coded_contents o A c))
  unfolding result_section
  span_result c x w r h l u in_c in_a =
      let L = spans_of P B c in
      let S : List ℕ = coded_contents o C c in
      let T : List ℕ = coded_contents o A c in
      let W : List ℕ = coded_contents o A LATE_RODATA in
      let s : ℕ = late_start o A in
      by-test (is_late_target c)
      (λ t.
      let q : end_at P B (line_count B) c ≡ end_at P B (line_count B) LATE_TARGET = ap (end_at P B (line_count B)) (eqb-true c LATE_TARGET (late_is c ∙ t)) in
      ap (λ (b : List ℕ). take w (drop x b)) (final_late o P B S T W s c t)
      ∙ front_same o P B (copied L S T) s W x w (rw (length_copied L S T) (omega arith)) (omega (arith, q, span_ends_lem o C B all c r h))
      ∙ copied_under L S T x w r h l u in_c in_a)
      (λ n. ap (λ (b : List ℕ). take w (drop x b)) (final_other o P B S T W s c n) ∙ copied_under L S T x w r h l u in_c in_a)

-- ---- late bytes

module _ (o : ByteOrder) (C A : List ℕ) (P : List Place) (B : List ℕ) (agrees : Agrees o C A P B) (runs : has_late_step P B ≡ true) where
  abbrev S : List ℕ
  S = coded_contents o C LATE_TARGET

  abbrev T : List ℕ
  T = coded_contents o A LATE_TARGET

  -- the late step starts inside C's .rodata
  start_inside : end_at P B (line_count B) LATE_TARGET ≤ length S
  start_inside = omega (arith, end_spans P B LATE_TARGET, last_by (spans_of P B LATE_TARGET) (length S) (agrees.complete.compiled_ends LATE_TARGET target_holds))

  -- and every item lies inside A's .late_rodata
  item_inside : (i k : ℕ) → i < block_count B → k < items P B i → move_source P B (late_start o A) i k + item_length B i k ≤ length (coded_contents o A LATE_RODATA)
  unfolding late_length late_source
  item_inside i k h g =
      omega (
        arith,
        source_end P B (late_start o A) i k g,
        source_mono P B (late_start o A) (i + 1) (block_count B) (omega (arith, h)),
        agrees.late_inside runs,
      )

  pub late_result : late_step_fault o P B (copied (spans_of P B LATE_TARGET) S T) ≡ block_count B → (x w i k : ℕ) → is_moved P B (late_start o A) x ≡ true
      → i < block_count B → k < items P B i → move_source P B (late_start o A) i k ≤ x → 0 < w → x + w ≤ move_source P B (late_start o A) i k + item_length B i k
      → take w (drop (late_place o C A P B x) (result_section o C A P B LATE_TARGET)) ≡ take w (drop x (coded_contents o A LATE_RODATA))
  unfolding result_section late_place
  late_result clear x w i k t h g a v b =
      late_part_lem o P B S T (coded_contents o A LATE_RODATA) (late_start o A) LATE_TARGET late_target_lem start_inside clear x w i k t h g a v b
      (omega (arith, b, item_inside i k h g))
