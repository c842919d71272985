-- `blocks_file::read_groups` meets its contract: p is where group k starts, no group below k is faulty, and the row holds their starts; the last one is stored
-- behind the loop. Assumes nothing.
use Rattle.blocks_file.proofs.Blocks.{group_far}
use Rattle.blocks_file.proofs.Table.{sound_none, sound_next, sound_fault, sound_all}
use native.Mathlib.Omega.{arith}
use Prim.Native.Nat.{◌≤◌}
use lib.ListN.{length}
use Rattle.blocks_file.proofs.read_groups.Goals as goal

pub loop-k-init : goal.loop-k-init
loop-k-init c =
    let a = c.args in
    sound_none a.file.now a.at

pub overflow_cast-starts : goal.overflow_cast-starts
overflow_cast-starts c =
    let a = c.args in
    let l = c.loop-k in
    let h : a.at ≤ length a.file.now = omega arith in
    omega (arith, group_far a.file.now a.at l.k h)

pub returns-then-next-eq0 : goal.returns-then-next-eq0
returns-then-next-eq0 c =
    let a = c.args in
    let l = c.loop-k in
    let n = c.group_after-next in
    sound_fault a.file.now a.at l.k l.p l.starts l.invariant n.result (omega arith) n.ensures c.if-next-eq0.true

pub loop-k-preserved : goal.loop-k-preserved
loop-k-preserved c =
    let a = c.args in
    let l = c.loop-k in
    let n = c.group_after-next in
    sound_next a.file.now a.at l.k l.p l.starts l.invariant n.result (omega arith) n.ensures c.if-next-eq0.false

pub overflow_cast-starts-2 : goal.overflow_cast-starts-2
overflow_cast-starts-2 c =
    let a = c.args in
    let l = c.loop-k in
    let h : a.at ≤ length a.file.now = omega arith in
    omega (arith, group_far a.file.now a.at l.k h)

pub returns : goal.returns
returns c =
    let a = c.args in
    let l = c.loop-k in
    sound_all a.file.now a.at l.k l.p l.starts l.invariant (omega arith)
