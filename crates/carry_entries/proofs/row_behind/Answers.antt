-- The ends of the rows ascend, so the first that is behind x is found by halves. Assumes nothing.
use Prim.Native.Nat.{◌-◌}
use mathlib.Core.Path.{sym, ap, ◌∙◌}
use native.Mathlib.Omega.{arith}
use lib.Dec.{ltb}
use borrow.Author.Tests.{lt-ltb, le-ltb}
use Rattle.base_lists.proofs.Halves.{halving_none, halving_down, halving_up, halving_end}
use Rattle.blocks_spans.specs.Table.{spans_in, ends_behind}
use Rattle.blocks_spans.proofs.Table.{behind_rows, behind_read}
use Rattle.carry_entries.proofs.row_behind.Goals as goal

pub loop-low-init : goal.loop-low-init
loop-low-init c =
    let a = c.args in
    halving_none (ends_behind (spans_in a.rows.now a.n) a.x) a.n

pub overflow_sub-mid : goal.overflow_sub-mid
overflow_sub-mid c = omega (arith, c.loop-low.invariant.order)

pub overflow_add-mid : goal.overflow_add-mid
overflow_add-mid c = omega (arith, c.loop-low.invariant.order)

pub row_end-requires : goal.row_end-requires
row_end-requires c =
    let l = c.loop-low.invariant in
    let p = c.requires in
    (omega (arith, l.inside, p.fits), omega (arith, l.inside, p.few))

pub loop-low-smaller-then-x-row_end : goal.loop-low-smaller-then-x-row_end
loop-low-smaller-then-x-row_end c = omega (arith, c.loop-low.invariant.order)

pub loop-low-preserved-then-x-row_end : goal.loop-low-preserved-then-x-row_end
loop-low-preserved-then-x-row_end c =
    let a = c.args in
    let l = c.loop-low in
    halving_down (ends_behind (spans_in a.rows.now a.n) a.x) a.n l.low l.high l.invariant (behind_rows a.rows.now a.n a.x c.requires) _
    (omega (arith, l.invariant.order))
    (behind_read a.rows.now a.n a.x _ (omega (arith, l.invariant.inside)) ∙ ap (ltb a.x) (sym c.row_end.ensures) ∙ lt-ltb _ _ c.if-x-row_end.true)
    (omega (arith, l.invariant.order))

pub overflow_add-low : goal.overflow_add-low
overflow_add-low c = omega (arith, c.loop-low.invariant.inside)

pub loop-low-smaller : goal.loop-low-smaller
loop-low-smaller c = omega (arith, c.loop-low.invariant.order)

pub loop-low-preserved : goal.loop-low-preserved
loop-low-preserved c =
    let a = c.args in
    let l = c.loop-low in
    halving_up (ends_behind (spans_in a.rows.now a.n) a.x) a.n l.low l.high l.invariant (behind_rows a.rows.now a.n a.x c.requires) _
    (omega (arith, l.invariant.order))
    (behind_read a.rows.now a.n a.x _ (omega (arith, l.invariant.inside)) ∙ ap (ltb a.x) (sym c.row_end.ensures) ∙ le-ltb _ _ c.if-x-row_end.false)
    (omega (arith, l.invariant.order))

pub returns : goal.returns
returns c =
    let a = c.args in
    let l = c.loop-low in
    halving_end (ends_behind (spans_in a.rows.now a.n) a.x) a.n l.low l.high l.invariant (omega arith)
