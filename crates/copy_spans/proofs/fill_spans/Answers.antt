-- `copy_spans::fill_spans` meets its contract: after j lines the records of those that are taken stand in the list. Assumes nothing.
use Rattle.blocks_places.proofs.Walk.{laid_taken, laid_inside}
use Rattle.blocks_places.specs.Table.{places_in}
use Rattle.blocks_places.specs.Places.{taken}
use Rattle.blocks_places.specs.Lines.{line_count}
use Rattle.blocks_file.proofs.Blocks.{count_high}
use Rattle.copy_spans.proofs.Records.{filling_none, filling_few, filling_yes, filling_no, filling_end}
use native.Mathlib.Omega.{arith}
use Prim.Native.Nat.{◌≤◌, ◌<◌}
use mathlib.Core.Path.{◌≡◌, sym, ◌∙◌}
use mathlib.Core.Bool.{true, false}
use lib.ListN.{length}
use Rattle.copy_spans.proofs.fill_spans.Goals as goal
use Rattle.copy_spans.proofs.fill_spans.Goals.{then-is_taken, else-is_taken}

pub loop-j-init : goal.loop-j-init
loop-j-init c =
    let a = c.args in
    filling_none (places_in a.places.now (line_count a.file.now)) a.file.now a.spans.now

pub overflow_mul-j-end : goal.overflow_mul-j-end
overflow_mul-j-end c = omega (arith, count_high c.args.file.now)

pub is_taken-requires : goal.is_taken-requires
is_taken-requires c =
    let a = c.args in
    let h : c.loop-j.j < line_count a.file.now = omega arith in
    laid_inside (places_in a.places.now (line_count a.file.now)) a.file.now a.table.now a.places.now c.requires.0 c.loop-j.j h

pub record_of-x-requires : goal.record_of-x-requires
record_of-x-requires c =
    let a = c.args in
    let j = c.loop-j.j in
    let h : j < line_count a.file.now = omega arith in
    (c.requires.0, h, sym (laid_taken (places_in a.places.now (line_count a.file.now)) a.file.now a.table.now a.places.now c.requires.0 j h) ∙ sym c.is_taken.ensures ∙ c.if-is_taken.true)

pub offset_bounds-spans-n : goal.offset_bounds-spans-n
offset_bounds-spans-n c =
    let a = c.args in
    let l = c.loop-j in
    omega (arith, filling_few (places_in a.places.now (line_count a.file.now)) a.file.now a.spans.now l.n l.j l.spans l.invariant, count_high a.file.now)

pub bounds-spans-n : goal.bounds-spans-n
bounds-spans-n c =
    let a = c.args in
    let l = c.loop-j in
    omega (arith, filling_few (places_in a.places.now (line_count a.file.now)) a.file.now a.spans.now l.n l.j l.spans l.invariant, l.invariant.long, c.requires.2, count_high a.file.now)

pub overflow_add-n : goal.overflow_add-n
overflow_add-n c =
    let a = c.args in
    let l = c.loop-j in
    omega (arith, filling_few (places_in a.places.now (line_count a.file.now)) a.file.now a.spans.now l.n l.j l.spans l.invariant, count_high a.file.now)

pub loop-j-preserved : goal.loop-j-preserved
loop-j-preserved c =
    let a = c.args in
    let P = places_in a.places.now (line_count a.file.now) in
    let l = c.loop-j in
    let h : l.j < line_count a.file.now = omega arith in
    elim c.if-is_taken.branch [
      | then-is_taken w ↦
          let t : taken P l.j ≡ true = sym (laid_taken P a.file.now a.table.now a.places.now c.requires.0 l.j h) ∙ sym c.is_taken.ensures ∙ w.if-is_taken.true in
          let room : l.n < length l.spans = omega (arith, filling_few P a.file.now a.spans.now l.n l.j l.spans l.invariant, l.invariant.long, c.requires.2, count_high a.file.now) in
          rw (w.n-is, w.spans-is) (filling_yes P a.file.now a.spans.now l.n l.j l.spans l.invariant _ w.record_of-x.ensures t h room)
      | else-is_taken w ↦
          let f : taken P l.j ≡ false = sym (laid_taken P a.file.now a.table.now a.places.now c.requires.0 l.j h) ∙ sym c.is_taken.ensures ∙ w.if-is_taken.false in
          rw (w.n-is, w.spans-is) (filling_no P a.file.now a.spans.now l.n l.j l.spans l.invariant f h)
    ]

pub shape_of-spans : goal.shape_of-spans
shape_of-spans c = c.loop-j.invariant.long

pub returns : goal.returns
returns c =
    let a = c.args in
    let l = c.loop-j in
    let h : line_count a.file.now ≤ l.j = omega arith in
    filling_end (places_in a.places.now (line_count a.file.now)) a.file.now a.spans.now l.n l.j l.spans l.invariant h
