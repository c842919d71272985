-- After some ranks their tables are listed; at the end these are all. Assumes nothing.
use native.Mathlib.Omega.{arith}
use mathlib.Core.Path.{refl, ◌∙◌}
use Rattle.carry_homes.proofs.Tables.{ranked_none, ranked_end}
use Rattle.carry_homes.proofs.list_tables.Goals as goal

pub loop-rank-init : goal.loop-rank-init
loop-rank-init c =
    let args = c.args in
    (refl, omega arith, ranked_none args.order args.assembled.now _)

pub list_rank-m-requires : goal.list_rank-m-requires
list_rank-m-requires c =
    let pre = c.requires in
    let loop-test = c.loop-rank-test in
    let loop = c.loop-rank in
    (pre.0, omega (arith, loop-test.true), omega (arith, pre.1, loop.invariant.0), loop.invariant.2)

pub loop-rank-preserved : goal.loop-rank-preserved
loop-rank-preserved c =
    let list-rank = c.list_rank-m in
    let loop = c.loop-rank in
    let loop-test = c.loop-rank-test in
    (list-rank.auto.rows ∙ loop.invariant.0, omega (arith, loop-test.true), list-rank.ensures)

pub shape_of-rows : goal.shape_of-rows
shape_of-rows c =
    let loop = c.loop-rank in
    loop.invariant.0

pub returns : goal.returns
returns c =
    let args = c.args in
    let loop = c.loop-rank in
    let loop-test = c.loop-rank-test in
    ranked_end args.order args.assembled.now loop.rank loop.m _ loop.invariant.2 (omega (arith, loop-test.false, loop.invariant.1))
