-- None of the rows before j has the home. Assumes nothing.
use native.Mathlib.Omega.{arith}
use mathlib.Core.Path.{refl}
use Rattle.carry_homes.proofs.Steps.{opened_here, opened_next, opened_none}
use Rattle.carry_homes.proofs.opened_by.Goals as goal

pub loop-j-init : goal.loop-j-init
loop-j-init c = (omega arith, refl)

pub home_at-requires : goal.home_at-requires
home_at-requires c =
    let pre = c.requires in
    let loop-test = c.loop-j-test in
    omega (arith, pre.0, loop-test.true)

pub returns-then-home_at-stay : goal.returns-then-home_at-stay
returns-then-home_at-stay c =
    let args = c.args in
    let loop = c.loop-j in
    let loop-test = c.loop-j-test in
    let home_at = c.home_at in
    let if1 = c.if-home_at-stay in
    opened_here args.rows.now args.n args.stay args.i loop.j loop.invariant.1 loop-test.true _ home_at.ensures.0 if1.true

pub loop-j-preserved : goal.loop-j-preserved
loop-j-preserved c =
    let args = c.args in
    let loop = c.loop-j in
    let loop-test = c.loop-j-test in
    let home_at = c.home_at in
    let if1 = c.if-home_at-stay in
    let f = opened_next args.rows.now args.n args.stay args.i loop.j loop.invariant.1 loop-test.true _ home_at.ensures.0 if1.false in
    (omega (arith, loop-test.true), f)

pub returns : goal.returns
returns c =
    let args = c.args in
    let loop = c.loop-j in
    let loop-test = c.loop-j-test in
    opened_none args.rows.now args.n args.stay args.i loop.j loop.invariant.1 (omega (arith, loop-test.false, loop.invariant.0))
