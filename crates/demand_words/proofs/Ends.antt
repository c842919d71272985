-- Every span ends in front of the end of the last line of its section, where 8 has passed: for the places of C's lines, whatever the numbers in C. Assumes nothing.
use Prim.Native.Nat.{ℕ, zero, suc, ◌+◌, ◌≤◌, ◌<◌}
use mathlib.Core.Path.{◌≡◌, sym, ap, ◌∙◌}
use mathlib.Core.Bool.{true, ◌&&◌}
use mathlib.Core.List.{List}
use native.Mathlib.Numerals.{add-one}
use native.Mathlib.Omega.{arith}
use lib.ListN.{length}
use lib.Dec.{eqb}
use borrow.Author.Tests.{eqb-true}
use Rattle.base_lists.specs.Ranges.{count}
use Rattle.base_lists.proofs.Ranges.{by-test, by-lt, and_parts}
use Rattle.base_fields.specs.declared.ByteOrder.{ByteOrder}
use Rattle.base_scope.specs.Codes.{line_code}
use Rattle.blocks_places.specs.Lines.{line_count}
use Rattle.blocks_places.specs.Places.{Place, is_placed, places_of, taken, place, end_at}
use Rattle.blocks_places.specs.Faults.{Placed, placing}
use Rattle.blocks_places.proofs.Places.{length_places, taken_placed, place_value, taken_inside, end_same, end_moved}
use Rattle.blocks_places.proofs.Walk.{placed_facts}
use Rattle.blocks_spans.specs.Spans.{span_end, is_span, span_of, spans_of, span_at}
use Rattle.blocks_spans.proofs.Spans.{span_taken, span_code, line_span, span_line}

module _ (o : ByteOrder) (C B : List ℕ) (all : placing o C B ≡ Placed) where
  abbrev P : List Place
  P = places_of o C B

  -- a line that is taken starts behind the end before it in its section
  behind : (j : ℕ) → taken P j ≡ true → end_at P B j (line_code j) ≤ place P j
  behind j t =
      let h : j < line_count B = omega (arith, taken_inside P j t, length_places o C B) in
      let y : is_placed o C B j ≡ true = sym (taken_placed o C B j h) ∙ t in
      rw (place_value o C B j h y) (placed_facts o C B all j h y).behind

  -- the ends of a section ascend
  end_step : (j c : ℕ) → end_at P B j c ≤ end_at P B (j + 1) c
  end_step j c = by-test (taken P j && eqb (line_code j) c)
      (λ t.
      let r = and_parts (taken P j) _ t in
      let e : line_code j ≡ c = eqb-true (line_code j) c r.1 in
      rw (← e) (omega (arith, behind j r.0, end_moved P B j r.0)))
      (λ n. rw (end_same P B j c n) (omega arith))

  ends_grow : (i j c : ℕ) → i ≤ j → end_at P B i c ≤ end_at P B j c
  ends_grow i zero c l = let e : i ≡ 0 = omega arith in rw e (omega arith)
  ends_grow i (suc j) c l = by-lt j i
      (λ g. let e : i ≡ suc j = omega arith in rw e (omega arith))
      (λ g. rw (← add-one j) (omega (arith, ends_grow i j c g, end_step j c)))

  line_end_lem : (j : ℕ) → j < line_count B → taken P j ≡ true → span_end (span_of P B j) ≤ end_at P B (line_count B) (line_code j)
  unfolding span_end span_of
  line_end_lem j h t = omega (arith, end_moved P B j t, ends_grow (j + 1) (line_count B) (line_code j) (omega arith))

  span_end_lem : (c r j : ℕ) → j < line_count B → is_span P B c j ≡ true → count (is_span P B c) j ≡ r → span_end (span_at (spans_of P B c) r) ≤ end_at P B (line_count B) c
  span_end_lem c r j h t e =
      let d : end_at P B (line_count B) (line_code j) ≡ end_at P B (line_count B) c = ap (end_at P B (line_count B)) (span_code P B c j t) in
      rw (← e, line_span P B c j h t) (omega (arith, d, line_end_lem j h (span_taken P B c j t)))

  -- span r of a section ends there at the latest
  pub span_ends_lem : (c r : ℕ) → r < length (spans_of P B c) → span_end (span_at (spans_of P B c) r) ≤ end_at P B (line_count B) c
  span_ends_lem c r h =
      let a = span_line P B c r h in
      span_end_lem c r a.0 a.1 a.2 a.3
