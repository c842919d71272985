-- `late_rodata::write_rest` meets its contract: before each turn the bytes from the last .rodata block copied up to k are written, and a turn adds the run at k.
-- Assumes nothing.
use Rattle.late_rodata.specs.Writing.{rest_read}
use Rattle.late_rodata.proofs.Writing.{going_none, rest_offset, rest_more, rest_next, rest_end}
use native.Mathlib.Omega.{arith}
use Prim.Native.Nat.{◌-◌}
use Rattle.late_rodata.proofs.write_rest.Goals as goal

pub loop-k-init : goal.loop-k-init
loop-k-init c =
    let a = c.args in
    going_none (rest_read a.order a.file.now a.rodata.now a.words.now a.late.now a.blocks a.last) a.at a.last a.out.now

pub write_run-k-requires : goal.write_run-k-requires
write_run-k-requires c =
    let a = c.args in
    let p = c.requires in
    let l = c.loop-k in
    (rest_offset a.order a.file.now a.rodata.now a.words.now a.table.now a.late.now a.last p.0 a.blocks p.1 l.k l.invariant.past c.loop-k-test.true, p.1, omega (arith, l.invariant.begun.long, p.2))

pub loop-k-smaller : goal.loop-k-smaller
loop-k-smaller c =
    let a = c.args in
    let p = c.requires in
    let l = c.loop-k in
    omega (arith, rest_more a.order a.file.now a.rodata.now a.words.now a.table.now a.late.now a.last p.0 a.blocks p.1 l.k l.invariant.past c.loop-k-test.true a.at _ _ _ c.write_run-k.ensures)

pub loop-k-preserved : goal.loop-k-preserved
loop-k-preserved c =
    let a = c.args in
    let p = c.requires in
    let l = c.loop-k in
    rest_next a.order a.file.now a.rodata.now a.words.now a.table.now a.late.now a.last p.0 a.blocks p.1 l.k l.invariant.past c.loop-k-test.true a.at _ _ _ c.write_run-k.ensures a.out.now p.2 l.invariant

pub shape_of-out : goal.shape_of-out
shape_of-out c = c.loop-k.invariant.begun.long

pub returns : goal.returns
returns c =
    let a = c.args in
    let p = c.requires in
    let l = c.loop-k in
    rest_end a.order a.file.now a.rodata.now a.words.now a.table.now a.late.now a.last p.0 a.blocks p.1 a.at l.k a.out.now _ c.loop-k-test.false l.invariant
