-- `blocks_spans::span_ends` meets its contract: after j lines the ends of their spans stand in the array. Assumes nothing.
use Rattle.blocks_file.proofs.Blocks.{count_high}
use Rattle.blocks_places.specs.Lines.{line_count}
use Rattle.blocks_places.specs.Table.{places_in}
use Rattle.blocks_spans.proofs.Table.{ending_none, ending_at, ending_next, ending_end}
use Prim.Native.Nat.{◌≤◌, ◌<◌}
use native.Mathlib.Omega.{arith}
use Rattle.blocks_spans.proofs.span_ends.Goals as goal

pub loop-j-init : goal.loop-j-init
loop-j-init c =
    let a = c.args in
    let P = places_in a.places.now (line_count a.file.now) in
    ending_none P a.file.now

pub overflow_mul-j-end : goal.overflow_mul-j-end
overflow_mul-j-end c = omega (arith, count_high c.args.file.now)

pub bounds-ends-code : goal.bounds-ends-code
bounds-ends-code c = omega (arith, c.loop-j.invariant.long, c.line_code-code.ensures)

pub end_behind-requires : goal.end_behind-requires
end_behind-requires c =
    let a = c.args in
    let P = places_in a.places.now (line_count a.file.now) in
    let l = c.loop-j in
    let q : l.j < line_count a.file.now = omega arith in
    (c.requires.0, q, ending_at P a.file.now l.j l.ends l.invariant _ c.line_code-code.ensures.0)

pub bounds-ends-code-in-loop-j : goal.bounds-ends-code-in-loop-j
bounds-ends-code-in-loop-j c = omega (arith, c.loop-j.invariant.long, c.line_code-code.ensures)

pub loop-j-preserved : goal.loop-j-preserved
loop-j-preserved c =
    let a = c.args in
    let P = places_in a.places.now (line_count a.file.now) in
    let l = c.loop-j in
    let q : l.j < line_count a.file.now = omega arith in
    ending_next P a.file.now l.j l.ends l.invariant _ _ c.line_code-code.ensures.0 c.end_behind.ensures q

pub returns : goal.returns
returns c =
    let a = c.args in
    let P = places_in a.places.now (line_count a.file.now) in
    let l = c.loop-j in
    let q : line_count a.file.now ≤ l.j = omega arith in
    ending_end P a.file.now l.j l.ends l.invariant q
