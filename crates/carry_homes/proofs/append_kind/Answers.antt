-- By whether there are addends. Assumes nothing.
use native.Mathlib.Omega.{arith}
use Rattle.base_scope.specs.Text.{text}
use Rattle.base_lists.proofs.Written.{written_as}
use Rattle.carry_homes.proofs.Names.{kind_yes, kind_no}
use Rattle.carry_homes.proofs.append_kind.Goals as goal

pub returns-then-rela : goal.returns-then-rela
unfolding text
returns-then-rela c =
    let args = c.args in
    let if1 = c.if-rela in
    let append = c.append in
    (written_as _ _ _ _ _ _ (kind_yes args.rela if1.true) append.ensures, omega (arith, append.ensures.end))

pub returns : goal.returns
unfolding text
returns c =
    let args = c.args in
    let if1 = c.if-rela in
    let append2 = c.append-2 in
    (written_as _ _ _ _ _ _ (kind_no args.rela if1.false) append2.ensures, omega (arith, append2.ensures.end))
