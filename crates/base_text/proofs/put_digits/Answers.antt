-- `base_text::put_digits` meets its contract: the digits of what is left, and the digits stored behind, are those of the number after every
-- turn. A number of i + 1 digits leaves one of i, so the place never goes below the first byte. Assumes nothing.
use Rattle.base_text.proofs.Decimals.{digits_turn, digits_end, digits_start}
use native.Mathlib.Omega.{arith}
use mathlib.Core.Path.{sym, ◌∙◌}
use lib.ListN.{length-set}
use Rattle.base_text.proofs.put_digits.Goals as goal

pub loop-m-init : goal.loop-m-init
loop-m-init c = (omega arith, c.requires.0, c.requires.1, digits_start c.args.n c.args.d.now c.requires.0)

pub overflow_sub-i : goal.overflow_sub-i
overflow_sub-i c =
    let l = c.loop-m in
    let t = digits_turn c.args.n l.i l.m l.d (omega arith) l.invariant.3 c.loop-m-test.true l.invariant.2 in
    omega (arith, t.0)

pub loop-m-smaller : goal.loop-m-smaller
loop-m-smaller c =
    let l = c.loop-m in
    let t = digits_turn c.args.n l.i l.m l.d (omega arith) l.invariant.3 c.loop-m-test.true l.invariant.2 in
    omega (arith, t.0)

pub loop-m-preserved : goal.loop-m-preserved
loop-m-preserved c =
    let l = c.loop-m in
    let t = digits_turn c.args.n l.i l.m l.d (omega arith) l.invariant.3 c.loop-m-test.true l.invariant.2 in
    (omega arith, simp length-set l.invariant.1, t.1, t.2)

pub shape_of-d : goal.shape_of-d
shape_of-d c = simp length-set (c.loop-m.invariant.1 ∙ sym c.requires.0)

pub returns : goal.returns
returns c =
    let l = c.loop-m in
    (omega arith, digits_end c.args.n l.i l.m l.d (omega arith) l.invariant.3 (omega arith))
