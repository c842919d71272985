-- After t turns the tables of the rank below t stand behind those of the ranks before it. Assumes nothing.
use native.Mathlib.Omega.{arith}
use mathlib.Core.Path.{refl, ◌∙◌}
use Rattle.elf_check.proofs.Views.{view_count}
use Rattle.carry_homes.proofs.Tables.{ranked_over}
use Rattle.carry_homes.proofs.list_rank.Goals as goal

pub loop-t-init : goal.loop-t-init
loop-t-init c =
    let pre = c.requires in
    (refl, omega arith, pre.3)

pub append_table-r-requires : goal.append_table-r-requires
append_table-r-requires c =
    let args = c.args in
    let pre = c.requires in
    let loop-test = c.loop-t-test in
    let loop = c.loop-t in
    let n = view_count args.order args.assembled.now args.source pre.0.is in
    (pre.0, pre.1, omega (arith, loop-test.true, n), omega (arith, pre.2, loop.invariant.0), loop.invariant.2)

pub loop-t-preserved : goal.loop-t-preserved
loop-t-preserved c =
    let append-table = c.append_table-r in
    let loop = c.loop-t in
    let loop-test = c.loop-t-test in
    (append-table.auto.rows ∙ loop.invariant.0, omega (arith, loop-test.true), append-table.ensures)

pub shape_of-rows : goal.shape_of-rows
shape_of-rows c =
    let loop = c.loop-t in
    loop.invariant.0

pub returns : goal.returns
returns c =
    let args = c.args in
    let pre = c.requires in
    let loop = c.loop-t in
    let loop-test = c.loop-t-test in
    let n = view_count args.order args.assembled.now args.source pre.0.is in
    ranked_over args.order args.assembled.now args.rank loop.t loop.r _ loop.invariant.2 (omega (arith, n, loop-test.false)) (omega (arith, n, loop.invariant.1))
