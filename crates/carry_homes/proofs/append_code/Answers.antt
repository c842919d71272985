-- By cases of the code. Assumes nothing.
use native.Mathlib.Omega.{arith}
use mathlib.Core.Path.{◌≡◌, sym, ap}
use Rattle.base_scope.specs.Text.{text}
use Rattle.base_scope.specs.Codes.{BSS, section_codes, code_name}
use Rattle.base_lists.proofs.Written.{written_as}
use Rattle.carry_homes.proofs.append_code.Goals as goal

pub returns-then-code-eq-TEXT : goal.returns-then-code-eq-TEXT
unfolding code_name section_codes text
returns-then-code-eq-TEXT c =
    let if1 = c.if-code-eq-TEXT in
    let append = c.append in
    written_as _ _ _ _ _ _ (ap code_name (sym if1.true)) append.ensures

pub returns-then-code-eq-DATA : goal.returns-then-code-eq-DATA
unfolding code_name section_codes text
returns-then-code-eq-DATA c =
    let if2 = c.if-code-eq-DATA in
    let append2 = c.append-then-code-eq-DATA in
    written_as _ _ _ _ _ _ (ap code_name (sym if2.true)) append2.ensures

pub returns-then-code-eq-RODATA : goal.returns-then-code-eq-RODATA
unfolding code_name section_codes text
returns-then-code-eq-RODATA c =
    let if3 = c.if-code-eq-RODATA in
    let append3 = c.append-then-code-eq-RODATA in
    written_as _ _ _ _ _ _ (ap code_name (sym if3.true)) append3.ensures

pub returns : goal.returns
unfolding code_name section_codes text
returns c =
    let args = c.args in
    let pre = c.requires in
    let if1 = c.if-code-eq-TEXT in
    let if2 = c.if-code-eq-DATA in
    let if3 = c.if-code-eq-RODATA in
    let append4 = c.append-2 in
    let e : args.code ≡ BSS = omega (arith, pre, if1.false, if2.false, if3.false) in
    written_as _ _ _ _ _ _ (ap code_name (sym e)) append4.ensures
