-- None before i joins a section of the name. Assumes nothing.
use native.Mathlib.Omega.{arith}
use mathlib.Core.Path.{refl}
use Rattle.carry_homes.proofs.Steps.{held_here, held_next, held_self}
use Rattle.carry_homes.proofs.first_home.Goals as goal

pub loop-i-init : goal.loop-i-init
loop-i-init c = (omega arith, refl)

pub same_home-requires : goal.same_home-requires
same_home-requires c =
    let pre = c.requires in
    let loop-test = c.loop-i-test in
    (pre.0, pre.1, pre.2, omega (arith, pre.2, loop-test.true))

pub returns-then-same_home : goal.returns-then-same_home
returns-then-same_home c =
    let args = c.args in
    let loop = c.loop-i in
    let pre = c.requires in
    let loop-test = c.loop-i-test in
    let asked = c.same_home in
    let if1 = c.if-same_home in
    held_here args.order args.assembled.now args.j loop.i pre.2 loop.invariant.1 loop-test.true _ asked.ensures if1.true

pub loop-i-preserved : goal.loop-i-preserved
loop-i-preserved c =
    let args = c.args in
    let loop = c.loop-i in
    let pre = c.requires in
    let loop-test = c.loop-i-test in
    let asked = c.same_home in
    let if1 = c.if-same_home in
    let f = held_next args.order args.assembled.now args.j loop.i pre.2 loop.invariant.1 loop-test.true _ asked.ensures if1.false in
    (omega (arith, loop-test.true), f)

pub returns : goal.returns
returns c =
    let args = c.args in
    let loop = c.loop-i in
    let pre = c.requires in
    let loop-test = c.loop-i-test in
    held_self args.order args.assembled.now args.j loop.i pre.2 loop.invariant.1 (omega (arith, loop-test.false, loop.invariant.0))
