-- The bytes passed over are equal, so the strings are where their rests from i on are; behind the loop the rests lie among the last n bytes. Assumes nothing.
use Rattle.base_names.proofs.Equal.{part_next, part_apart, part_last}
use native.Mathlib.Omega.{arith}
use Prim.Native.Nat.{◌-◌}
use mathlib.Core.Path.{refl, sym, ◌∙◌}
use lib.ListN.{length}
use Rattle.base_names.proofs.is_same_by.Goals as goal

pub loop-i-init : goal.loop-i-init
loop-i-init c = refl

pub loop-i-preserved : goal.loop-i-preserved
loop-i-preserved c =
    let a = c.args in
    let l = c.loop-i in
    l.invariant ∙ part_next a.a.now a.b.now l.i a.n (sym c.is_same_part.ensures ∙ c.if-is_same_part.true)

pub returns-else-is_same_part : goal.returns-else-is_same_part
returns-else-is_same_part c =
    let a = c.args in
    let l = c.loop-i in
    sym (part_apart a.a.now a.b.now l.i a.n (sym c.is_same_part.ensures ∙ c.if-is_same_part.false))

pub returns : goal.returns
returns c =
    let a = c.args in
    let l = c.loop-i in
    c.is_same_part-2.ensures ∙ part_last a.a.now a.b.now (length a.a.now - a.n) l.i a.n (omega arith) (omega arith) (omega arith) l.invariant
