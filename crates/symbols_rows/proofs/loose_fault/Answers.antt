-- A search: no position before p is at fault. Assumes nothing.
use Rattle.symbols_rows.specs.Rows.{loose_in}
use Rattle.symbols_rows.proofs.Faults.{fault_here, fault_next, fault_none}
use native.Mathlib.Omega.{arith}
use mathlib.Core.Path.{refl}
use Rattle.symbols_rows.proofs.loose_fault.Goals as goal

pub loop-p-init : goal.loop-p-init
loop-p-init c = (omega arith, refl)

pub is_loose-requires : goal.is_loose-requires
is_loose-requires c = c.requires c.loop-p.p c.loop-p-test.true

pub returns-then-is_loose : goal.returns-then-is_loose
returns-then-is_loose c =
    let a = c.args in
    let l = c.loop-p in
    fault_here (loose_in a.rows.now a.list.now) a.m l.p l.invariant.1 c.loop-p-test.true _ c.is_loose.ensures c.if-is_loose.true

pub loop-p-preserved : goal.loop-p-preserved
loop-p-preserved c =
    let a = c.args in
    let l = c.loop-p in
    (omega arith, fault_next (loose_in a.rows.now a.list.now) a.m l.p l.invariant.1 c.loop-p-test.true _ c.is_loose.ensures c.if-is_loose.false)

pub returns : goal.returns
returns c =
    let a = c.args in
    let l = c.loop-p in
    fault_none (loose_in a.rows.now a.list.now) a.m l.p l.invariant.1 c.loop-p-test.false
