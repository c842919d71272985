-- `late_lookups::row_past` meets its contract: a field ascends, so a row behind one that is past x is past x too, and the first such row lies between `low` and
-- `high`. A turn halves what is between them. Assumes nothing.
use Rattle.base_lists.proofs.Halves.{halving_none, halving_down, halving_up, halving_end}
use Rattle.late_lookups.specs.Fields.{is_past}
use Rattle.late_lookups.proofs.Fields.{past_yes, past_no, past_on, first_past_read}
use native.Mathlib.Omega.{arith}
use Prim.Native.Nat.{◌+◌, ◌-◌, ◌/◌}
use Rattle.late_lookups.proofs.row_past.Goals as goal

pub loop-low-init : goal.loop-low-init
loop-low-init c =
    let a = c.args in
    halving_none (is_past a.late.now a.f a.x) a.n

pub overflow_sub-middle : goal.overflow_sub-middle
overflow_sub-middle c =
    omega (arith, c.loop-low.invariant.order)

pub overflow_add-middle : goal.overflow_add-middle
overflow_add-middle c =
    omega (arith, c.loop-low.invariant.inside, c.requires.0.few)

pub overflow_add-middle-in-loop-low : goal.overflow_add-middle-in-loop-low
overflow_add-middle-in-loop-low c =
    omega (arith, c.loop-low.invariant.inside, c.requires.0.few)

pub field_at-requires : goal.field_at-requires
field_at-requires c =
    let p = c.requires in
    let l = c.loop-low in
    let i = l.invariant.inside in
    let r = p.0.rows (l.low + (l.high - l.low) / 2) (omega (arith, i)) in
    (p.1, omega (arith, i, p.0.few), omega (arith, i, r.long))

pub loop-low-smaller-then-x-field_at : goal.loop-low-smaller-then-x-field_at
loop-low-smaller-then-x-field_at c = omega (arith, c.loop-low.invariant.order)

pub loop-low-preserved-then-x-field_at : goal.loop-low-preserved-then-x-field_at
loop-low-preserved-then-x-field_at c =
    let a = c.args in
    let p = c.requires in
    let l = c.loop-low in
    let m = l.low + (l.high - l.low) / 2 in
    let t = past_yes a.late.now a.n p.0 a.f p.1 a.x m (omega (arith, c.field_at.ensures.0)) in
    halving_down (is_past a.late.now a.f a.x) a.n l.low l.high l.invariant (past_on a.late.now a.n p.0 a.f p.1 a.x) m (omega arith) t (omega arith)

pub overflow_add-low : goal.overflow_add-low
overflow_add-low c =
    omega (arith, c.loop-low.invariant.inside, c.requires.0.few)

pub loop-low-smaller : goal.loop-low-smaller
loop-low-smaller c = omega (arith, c.loop-low.invariant.order)

pub loop-low-preserved : goal.loop-low-preserved
loop-low-preserved c =
    let a = c.args in
    let p = c.requires in
    let l = c.loop-low in
    let m = l.low + (l.high - l.low) / 2 in
    let f = past_no a.late.now a.n p.0 a.f p.1 a.x m (omega (arith, c.field_at.ensures.0)) in
    halving_up (is_past a.late.now a.f a.x) a.n l.low l.high l.invariant (past_on a.late.now a.n p.0 a.f p.1 a.x) m (omega arith) f (omega arith)

pub returns : goal.returns
returns c =
    let a = c.args in
    let p = c.requires in
    let l = c.loop-low in
    let i = l.invariant.inside in
    let o = l.invariant.order in
    (first_past_read a.late.now a.n p.0 a.f p.1 a.x l.low (halving_end (is_past a.late.now a.f a.x) a.n l.low l.high l.invariant (omega arith)), omega arith)
