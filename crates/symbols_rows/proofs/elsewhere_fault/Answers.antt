-- A search: no position before p is at fault. Assumes nothing.
use Rattle.symbols_rows.specs.Rows.{elsewhere_in}
use Rattle.symbols_rows.proofs.Faults.{fault_here, fault_next, fault_none}
use native.Mathlib.Omega.{arith}
use mathlib.Core.Path.{refl}
use Rattle.symbols_rows.proofs.elsewhere_fault.Goals as goal

pub loop-p-init : goal.loop-p-init
loop-p-init c = (omega arith, refl)

pub is_elsewhere-requires : goal.is_elsewhere-requires
is_elsewhere-requires c = c.requires c.loop-p.p c.loop-p-test.true

pub returns-then-is_elsewhere : goal.returns-then-is_elsewhere
returns-then-is_elsewhere c =
    let a = c.args in
    let l = c.loop-p in
    fault_here (elsewhere_in a.rows.now a.list.now a.holders.now) a.m l.p l.invariant.1 c.loop-p-test.true _ c.is_elsewhere.ensures c.if-is_elsewhere.true

pub loop-p-preserved : goal.loop-p-preserved
loop-p-preserved c =
    let a = c.args in
    let l = c.loop-p in
    (omega arith, fault_next (elsewhere_in a.rows.now a.list.now a.holders.now) a.m l.p l.invariant.1 c.loop-p-test.true _ c.is_elsewhere.ensures c.if-is_elsewhere.false)

pub returns : goal.returns
returns c =
    let a = c.args in
    let l = c.loop-p in
    fault_none (elsewhere_in a.rows.now a.list.now a.holders.now) a.m l.p l.invariant.1 c.loop-p-test.false
