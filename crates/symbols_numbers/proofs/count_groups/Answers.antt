-- After p turns the holders below p are counted in their groups. Assumes nothing.
use native.Mathlib.Omega.{arith}
use Rattle.symbols_numbers.proofs.Counts.{counts_none, counts_small, counts_end, counting_next}
use Rattle.symbols_numbers.proofs.count_groups.Goals as goal

pub loop-p-init : goal.loop-p-init
loop-p-init c = counts_none _ _ _ _

pub result_group-g-requires : goal.result_group-g-requires
result_group-g-requires c =
    (c.requires.held _ c.loop-p-test.true).own

pub bounds-counts-g : goal.bounds-counts-g
bounds-counts-g c = omega (arith, c.loop-p.invariant.long, c.result_group-g.ensures)

pub count_behind-requires : goal.count_behind-requires
count_behind-requires c =
    let l = c.loop-p in (
      (c.requires.held _ c.loop-p-test.true).inside,
      omega (arith, c.requires.few, counts_small _ _ _ _ _ _ l.invariant _ c.result_group-g.ensures.1),
    )

pub bounds-counts-g-in-loop-p : goal.bounds-counts-g-in-loop-p
bounds-counts-g-in-loop-p c = omega (arith, c.loop-p.invariant.long, c.result_group-g.ensures)

pub loop-p-preserved : goal.loop-p-preserved
loop-p-preserved c =
    let l = c.loop-p in
    let g = c.result_group-g in
    counting_next _ _ _ _ _ _ _ _ l.invariant _ g.ensures.0 g.ensures.1 _
    c.count_behind.ensures c.loop-p-test.true

pub returns : goal.returns
returns c =
    let l = c.loop-p in
    counts_end _ _ _ _ _ _ l.invariant c.loop-p-test.false
