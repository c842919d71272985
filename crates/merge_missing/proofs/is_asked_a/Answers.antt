-- `merge_missing::is_asked_a` meets its contract. Assumes nothing.
use Rattle.merge_missing.proofs.Ends.{asked_some, asked_rodata, asked_reginfo, asked_none}
use mathlib.Core.Path.{◌∙◌}
use native.Mathlib.Omega.{arith}
use Rattle.merge_missing.proofs.is_asked_a.Goals as goal

pub returns-then-end-gt0 : goal.returns-then-end-gt0
returns-then-end-gt0 c =
    let a = c.args in
    asked_some a.view a.end a.late a.code c.if-end-gt0.true

pub returns-then-code-eq-LATE_RODATA : goal.returns-then-code-eq-LATE_RODATA
returns-then-code-eq-LATE_RODATA c =
    let a = c.args in
    asked_rodata a.view a.end a.late a.code c.if-end-gt0.false c.if-code-eq-LATE_RODATA.true

pub has_coded-requires : goal.has_coded-requires
has_coded-requires c = omega (arith, c.if-code-eq-REGINFO.true)

pub returns-then-code-eq-REGINFO : goal.returns-then-code-eq-REGINFO
returns-then-code-eq-REGINFO c =
    let a = c.args in
    c.has_coded.ensures ∙ asked_reginfo a.view a.end a.late a.code c.if-end-gt0.false c.if-code-eq-LATE_RODATA.false c.if-code-eq-REGINFO.true

pub returns : goal.returns
returns c =
    let a = c.args in
    asked_none a.view a.end a.late a.code c.if-end-gt0.false c.if-code-eq-LATE_RODATA.false c.if-code-eq-REGINFO.false
