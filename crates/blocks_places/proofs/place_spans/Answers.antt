-- `blocks_places::place_spans` meets its contract: before turn j the rows of the first j lines stand in the table, and none of them is at fault. Assumes nothing.
use Rattle.blocks_file.proofs.Blocks.{count_high}
use Rattle.blocks_places.specs.Lines.{line_count}
use Rattle.blocks_places.proofs.Walk.{walking_none, walking_end_at, walking_8, walking_9, walking_next, walking_end}
use native.Mathlib.Omega.{arith}
use Prim.Native.Nat.{◌≤◌, ◌<◌}
use Rattle.blocks_places.proofs.place_spans.Goals as goal

pub loop-j-init : goal.loop-j-init
loop-j-init c =
    let a = c.args in
    walking_none a.order a.compiled.now a.file.now a.places.now

pub overflow_mul-j-end : goal.overflow_mul-j-end
overflow_mul-j-end c = omega (arith, count_high c.args.file.now)

pub step_of-s-requires : goal.step_of-s-requires
step_of-s-requires c =
    let a = c.args in
    let p = c.requires in
    let l = c.loop-j in
    let h : l.j < line_count a.file.now = omega arith in (
      record { symbols = p.0; indexed = p.4; parsed = p.1; inside = h },
      walking_end_at a.order a.compiled.now a.file.now a.places.now l.j l.ends l.on l.places l.invariant c.line_code-c.result c.line_code-c.ensures.0,
      l.invariant.reach,
    )

pub shape_of-places-then-s : goal.shape_of-places-then-s
shape_of-places-then-s c = c.loop-j.invariant.long

pub returns-then-s : goal.returns-then-s
returns-then-s c =
    let a = c.args in
    let p = c.requires in
    let l = c.loop-j in
    let h : l.j < line_count a.file.now = omega arith in
    rw c.line_block.ensures
    (walking_8 a.order a.compiled.now a.file.now a.places.now l.j l.ends l.on l.places l.invariant
    c.step_of-s.result c.step_of-s.ensures h c.if-s.true)

pub shape_of-places-then-s-2 : goal.shape_of-places-then-s-2
shape_of-places-then-s-2 c = c.loop-j.invariant.long

pub returns-then-s-2 : goal.returns-then-s-2
returns-then-s-2 c =
    let a = c.args in
    let p = c.requires in
    let l = c.loop-j in
    let h : l.j < line_count a.file.now = omega arith in
    rw c.line_block-then-s-2.ensures
    (walking_9 a.order a.compiled.now a.file.now a.places.now l.j l.ends l.on l.places l.invariant
    c.step_of-s.result c.step_of-s.ensures h c.if-s.false c.if-s-2.true)

pub store_place-requires : goal.store_place-requires
store_place-requires c =
    let a = c.args in
    let l = c.loop-j in
    let b = count_high a.file.now in
    let m = l.invariant.long in
    let h : l.j < line_count a.file.now = omega arith in
    (omega arith, omega arith)

pub loop-j-preserved : goal.loop-j-preserved
loop-j-preserved c =
    let a = c.args in
    let p = c.requires in
    let l = c.loop-j in
    let s = c.step_of-s in
    let k = c.line_code-c in
    let h : l.j < line_count a.file.now = omega arith in
    let n = walking_next a.order a.compiled.now a.file.now a.places.now l.j l.ends l.on l.places l.invariant
    s.result s.ensures h k.result k.ensures.0 c.if-s.false c.if-s-2.false p.3 in
    rw c.store_place.ensures n

pub shape_of-places : goal.shape_of-places
shape_of-places c = c.loop-j.invariant.long

pub returns : goal.returns
returns c =
    let a = c.args in
    let p = c.requires in
    let l = c.loop-j in
    let h : line_count a.file.now ≤ l.j = omega arith in
    walking_end a.order a.compiled.now a.file.now a.places.now l.j l.ends l.on l.places l.invariant h
