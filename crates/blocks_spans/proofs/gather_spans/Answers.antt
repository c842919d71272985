-- `blocks_spans::gather_spans` meets its contract: after j lines the rows of their spans stand in the table. Assumes nothing.
use Rattle.blocks_file.proofs.Blocks.{count_high}
use Rattle.blocks_places.specs.Lines.{line_count}
use Rattle.blocks_places.specs.Table.{places_in}
use Rattle.blocks_spans.proofs.Table.{gathering_none, gathering_next, gathering_end}
use Prim.Native.Nat.{◌<◌, ◌≤◌}
use native.Mathlib.Omega.{arith}
use Rattle.blocks_spans.proofs.gather_spans.Goals as goal

pub loop-j-init : goal.loop-j-init
loop-j-init c =
    let a = c.args in
    gathering_none (places_in a.places.now (line_count a.file.now)) a.file.now a.code a.rows.now

pub overflow_mul-j-end : goal.overflow_mul-j-end
overflow_mul-j-end c = omega (arith, count_high c.args.file.now)

pub store_span-r-requires : goal.store_span-r-requires
store_span-r-requires c =
    let a = c.args in
    let P = places_in a.places.now (line_count a.file.now) in
    let l = c.loop-j in
    let h : l.j < line_count a.file.now = omega arith in
    (c.requires.0, h, l.invariant.many, omega (arith, l.invariant.long, c.requires.2))

pub loop-j-preserved : goal.loop-j-preserved
loop-j-preserved c =
    let a = c.args in
    let P = places_in a.places.now (line_count a.file.now) in
    let l = c.loop-j in
    let h : l.j < line_count a.file.now = omega arith in
    gathering_next P a.file.now a.code a.rows.now l.j l.r l.rows l.invariant _ _ h c.requires.2 c.store_span-r.ensures

pub shape_of-rows : goal.shape_of-rows
shape_of-rows c = c.loop-j.invariant.long

pub returns : goal.returns
returns c =
    let a = c.args in
    let P = places_in a.places.now (line_count a.file.now) in
    let l = c.loop-j in
    let h : line_count a.file.now ≤ l.j = omega arith in
    gathering_end P a.file.now a.code a.rows.now l.j l.r l.rows l.invariant h
