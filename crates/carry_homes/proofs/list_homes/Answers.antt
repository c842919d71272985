-- After j turns the first j tables have their homes. Assumes nothing.
use native.Mathlib.Omega.{arith}
use mathlib.Core.Path.{refl, ◌∙◌}
use Rattle.carry_homes.proofs.Steps.{homes_none, homes_end}
use Rattle.carry_homes.proofs.list_homes.Goals as goal

pub list_tables-tables-requires : goal.list_tables-tables-requires
list_tables-tables-requires c =
    let pre = c.requires in
    (pre.1, pre.3)

pub loop-j-init : goal.loop-j-init
loop-j-init c =
    let args = c.args in
    let list-tables = c.list_tables-tables in
    (refl, omega arith, homes_none args.order args.compiled.now args.assembled.now args.stay _ list-tables.ensures.1)

pub settle_home-opened-requires : goal.settle_home-opened-requires
settle_home-opened-requires c =
    let pre = c.requires in
    let loop-test = c.loop-j-test in
    let list-tables = c.list_tables-tables in
    let loop = c.loop-j in
    (pre.0, pre.1, pre.2, omega (arith, loop-test.true, list-tables.ensures.0), loop.invariant.2)

pub loop-j-preserved : goal.loop-j-preserved
loop-j-preserved c =
    let settle-home = c.settle_home-opened in
    let loop = c.loop-j in
    let loop-test = c.loop-j-test in
    (settle-home.auto.rows ∙ loop.invariant.0, omega (arith, loop-test.true), settle-home.ensures)

pub shape_of-rows : goal.shape_of-rows
shape_of-rows c =
    let loop = c.loop-j in
    let list-tables = c.list_tables-tables in
    loop.invariant.0 ∙ list-tables.auto.rows

pub returns : goal.returns
returns c =
    let args = c.args in
    let loop = c.loop-j in
    let list-tables = c.list_tables-tables in
    let loop-test = c.loop-j-test in
    homes_end args.order args.compiled.now args.assembled.now args.stay loop.j loop.opened _ loop.invariant.2 _ list-tables.ensures.0 loop-test.false
    loop.invariant.1
