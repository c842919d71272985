-- `blocks_spans::first_behind` meets its contract: the ends of the rows ascend, so the first that is behind k is found by halves. Assumes nothing.
use Rattle.base_lists.proofs.Halves.{halving_none, halving_down, halving_up, halving_end}
use Rattle.blocks_spans.specs.Table.{spans_in, ends_behind}
use Rattle.blocks_spans.proofs.Table.{behind_rows, behind_read}
use Prim.Native.Nat.{◌-◌}
use mathlib.Core.Path.{sym, ◌∙◌}
use native.Mathlib.Omega.{arith}
use Rattle.blocks_spans.proofs.first_behind.Goals as goal

pub loop-low-init : goal.loop-low-init
loop-low-init c =
    let a = c.args in
    halving_none (ends_behind (spans_in a.rows.now a.n) a.k) a.n

pub overflow_sub-mid : goal.overflow_sub-mid
overflow_sub-mid c = omega (arith, c.loop-low.invariant.order)

pub overflow_add-mid : goal.overflow_add-mid
overflow_add-mid c = omega (arith, c.loop-low.invariant.order)

pub is_behind-requires : goal.is_behind-requires
is_behind-requires c =
    let l = c.loop-low.invariant in
    let p = c.requires in
    (omega (arith, l.inside, p.fits), omega (arith, l.inside, p.few))

pub loop-low-smaller-then-is_behind : goal.loop-low-smaller-then-is_behind
loop-low-smaller-then-is_behind c = omega (arith, c.loop-low.invariant.order)

pub loop-low-preserved-then-is_behind : goal.loop-low-preserved-then-is_behind
loop-low-preserved-then-is_behind c =
    let a = c.args in
    let l = c.loop-low in
    halving_down (ends_behind (spans_in a.rows.now a.n) a.k) a.n l.low l.high l.invariant (behind_rows a.rows.now a.n a.k c.requires) _ (omega (arith, l.invariant.order)) (behind_read a.rows.now a.n a.k _ (omega (arith, l.invariant.inside)) ∙ sym c.is_behind.ensures ∙ c.if-is_behind.true) (omega (arith, l.invariant.order))

pub overflow_add-low : goal.overflow_add-low
overflow_add-low c = omega (arith, c.loop-low.invariant.inside)

pub loop-low-smaller : goal.loop-low-smaller
loop-low-smaller c = omega (arith, c.loop-low.invariant.order)

pub loop-low-preserved : goal.loop-low-preserved
loop-low-preserved c =
    let a = c.args in
    let l = c.loop-low in
    halving_up (ends_behind (spans_in a.rows.now a.n) a.k) a.n l.low l.high l.invariant (behind_rows a.rows.now a.n a.k c.requires) _ (omega (arith, l.invariant.order)) (behind_read a.rows.now a.n a.k _ (omega (arith, l.invariant.inside)) ∙ sym c.is_behind.ensures ∙ c.if-is_behind.false) (omega (arith, l.invariant.order))

pub returns : goal.returns
returns c =
    let a = c.args in
    let l = c.loop-low in
    halving_end (ends_behind (spans_in a.rows.now a.n) a.k) a.n l.low l.high l.invariant (omega arith)
