-- `base_names::has_prefix` meets its contract: a string shorter than the prefix does not begin with it, and the bytes passed over are equal, so it does where
-- the rests agree. Assumes nothing.
use Rattle.base_lists.proofs.Strings.{prefixed_short}
use Rattle.base_names.proofs.Prefixes.{prefix_start, prefix_next, prefix_not, prefix_end}
use native.Mathlib.Omega.{arith}
use mathlib.Core.Path.{sym, ◌∙◌}
use Rattle.base_names.proofs.has_prefix.Goals as goal

pub returns-then-s-p : goal.returns-then-s-p
returns-then-s-p c =
    let a = c.args in
    sym (prefixed_short a.p.now a.s.now c.if-s-p.true)

pub loop-i-init : goal.loop-i-init
loop-i-init c =
    let a = c.args in
    prefix_start a.p.now a.s.now

pub returns-then-s-i : goal.returns-then-s-i
returns-then-s-i c =
    let a = c.args in
    let l = c.loop-i in
    sym (l.invariant ∙ prefix_not a.p.now a.s.now l.i (omega arith) (omega arith) c.if-s-i.true)

pub loop-i-preserved : goal.loop-i-preserved
loop-i-preserved c =
    let a = c.args in
    let l = c.loop-i in
    l.invariant ∙ prefix_next a.p.now a.s.now l.i (omega arith) (omega arith) c.if-s-i.false

pub returns : goal.returns
returns c =
    let a = c.args in
    let l = c.loop-i in
    sym (l.invariant ∙ prefix_end a.p.now a.s.now l.i (omega arith) (omega arith))
