-- `late_walk::place_late` meets its contract: before each turn the rows and words of the first i blocks stand in the table (proofs/Walk.antt). Assumes nothing.
use Rattle.blocks_file.specs.Blocks.{block_count}
use Rattle.late_walk.proofs.Walk.{step_next, step_stop, walking_none, row_room, at_block, walking_next, walking_stop, walking_end}
use native.Mathlib.Omega.{arith}
use Prim.Native.Nat.{◌≤◌, ◌<◌}
use mathlib.Core.Path.{◌≡◌}
use Rattle.late_walk.proofs.place_late.Goals as goal

pub loop-i-init : goal.loop-i-init
loop-i-init c =
    let a = c.args in
    walking_none a.order _ a.file.now a.rodata.now a.table.now a.places.now a.blocks a.step a.late.now c.requires.0

pub store_row-requires : goal.store_row-requires
store_row-requires c =
    let a = c.args in
    let q = c.requires in
    let l = c.loop-i in
    row_room a.order _ a.file.now a.rodata.now a.table.now a.places.now a.blocks a.step q.0 a.late.now q.1 l.i l.row l.late l.invariant

pub step_block-requires : goal.step_block-requires
step_block-requires c =
    let a = c.args in
    let q = c.requires in
    let l = c.loop-i in
    let h : l.i < block_count a.file.now = omega (arith, q.0.counted) in
    at_block a.order _ a.file.now a.rodata.now a.table.now a.places.now a.blocks a.step q.0 a.late.now q.1 l.i l.row l.late l.invariant _ c.store_row.ensures h

pub loop-i-preserved : goal.loop-i-preserved
loop-i-preserved c =
    let a = c.args in
    let q = c.requires in
    let l = c.loop-i in
    let h : l.i < block_count a.file.now = omega (arith, q.0.counted) in
    let b = c.step_block in
    walking_next a.order _ a.file.now a.rodata.now a.table.now a.places.now a.blocks a.step q.0 a.late.now q.1 l.i l.row l.late l.invariant _ c.store_row.ensures h _ b.ensures.1 c.in-Some.next
    (step_next a.order _ a.file.now a.rodata.now l.i a.step.start l.row b.result b.ensures.0 l.invariant.is c.in-Some.next c.in-Some.is)

pub returns-in-None : goal.returns-in-None
returns-in-None c =
    let a = c.args in
    let q = c.requires in
    let l = c.loop-i in
    let h : l.i < block_count a.file.now = omega (arith, q.0.counted) in
    let b = c.step_block in
    walking_stop a.order _ a.file.now a.rodata.now a.table.now a.places.now a.blocks a.step q.0 a.late.now q.1 l.i l.row l.late l.invariant _ c.store_row.ensures h _ b.ensures.1
    (step_stop a.order _ a.file.now a.rodata.now l.i a.step.start l.row b.result b.ensures.0 l.invariant.is c.in-None.is)

pub store_row-requires-2 : goal.store_row-requires-2
store_row-requires-2 c =
    let a = c.args in
    let q = c.requires in
    let l = c.loop-i in
    let e : l.i ≡ a.blocks = omega arith in
    row_room a.order _ a.file.now a.rodata.now a.table.now a.places.now a.blocks a.step q.0 a.late.now q.1 a.blocks l.row l.late (rw e at l.invariant)

pub returns : goal.returns
returns c =
    let a = c.args in
    let q = c.requires in
    let l = c.loop-i in
    let e : l.i ≡ a.blocks = omega arith in
    let h : block_count a.file.now ≤ a.blocks = omega (arith, q.0.counted) in
    walking_end a.order _ a.file.now a.rodata.now a.table.now a.places.now a.blocks a.step q.0 a.late.now q.1 a.blocks l.row l.late (rw e at l.invariant) _ c.store_row-2.ensures h
