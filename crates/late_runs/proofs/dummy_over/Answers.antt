-- `late_runs::dummy_over` meets its contract: the words of a block ascend, so one behind a word that ends past x ends past x too, and the first such word lies
-- between `low` and `high`. A turn halves what is between them. Assumes nothing.
use Rattle.base_lists.proofs.Halves.{halving_none, halving_down, halving_up, halving_end}
use Rattle.late_runs.specs.Words.{word_past}
use Rattle.late_runs.proofs.Words.{past_yes, past_no, past_on, over_read}
use native.Mathlib.Omega.{arith}
use Prim.Native.Nat.{◌+◌, ◌-◌, ◌/◌}
use Rattle.late_runs.proofs.dummy_over.Goals as goal

pub loop-low-init : goal.loop-low-init
loop-low-init c =
    let a = c.args in
    halving_none (word_past a.late.now a.i a.x) a.count

pub overflow_sub-middle : goal.overflow_sub-middle
overflow_sub-middle c =
    omega (arith, c.loop-low.invariant.order)

pub overflow_add-middle : goal.overflow_add-middle
overflow_add-middle c =
    omega (arith, c.loop-low.invariant.inside, c.ranges.count)

pub dummy_place-requires : goal.dummy_place-requires
dummy_place-requires c =
    let p = c.requires in
    let i = c.loop-low.invariant.inside in
    (p.0, omega (arith, p.1))

pub overflow_add-dummy_place : goal.overflow_add-dummy_place
overflow_add-dummy_place c = omega (arith, c.dummy_place.ensures.1)

pub loop-low-smaller-then-x-dummy_place : goal.loop-low-smaller-then-x-dummy_place
loop-low-smaller-then-x-dummy_place c = omega (arith, c.loop-low.invariant.order)

pub loop-low-preserved-then-x-dummy_place : goal.loop-low-preserved-then-x-dummy_place
loop-low-preserved-then-x-dummy_place c =
    let a = c.args in
    let p = c.requires in
    let l = c.loop-low in
    let m = l.low + (l.high - l.low) / 2 in
    let t = past_yes a.late.now a.i a.x m (omega (arith, c.dummy_place.ensures.0)) in
    halving_down (word_past a.late.now a.i a.x) a.count l.low l.high l.invariant (past_on a.late.now a.i a.x a.count p.0 p.1) m (omega arith) t (omega arith)

pub overflow_add-low : goal.overflow_add-low
overflow_add-low c =
    omega (arith, c.loop-low.invariant.inside, c.ranges.count)

pub loop-low-smaller : goal.loop-low-smaller
loop-low-smaller c = omega (arith, c.loop-low.invariant.order)

pub loop-low-preserved : goal.loop-low-preserved
loop-low-preserved c =
    let a = c.args in
    let p = c.requires in
    let l = c.loop-low in
    let m = l.low + (l.high - l.low) / 2 in
    let f = past_no a.late.now a.i a.x m (omega (arith, c.dummy_place.ensures.0)) in
    halving_up (word_past a.late.now a.i a.x) a.count l.low l.high l.invariant (past_on a.late.now a.i a.x a.count p.0 p.1) m (omega arith) f (omega arith)

pub returns : goal.returns
returns c =
    let a = c.args in
    let p = c.requires in
    let l = c.loop-low in
    let i = l.invariant.inside in
    let o = l.invariant.order in
    (over_read a.late.now a.i a.x a.count l.low p.1 (halving_end (word_past a.late.now a.i a.x) a.count l.low l.high l.invariant (omega arith)), omega arith)
