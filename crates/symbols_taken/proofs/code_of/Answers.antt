-- A search for the first code whose section is s: before each turn it goes on as from the first code. Assumes nothing.
use Rattle.base_lists.proofs.Ranges.{first_here, first_next, first_end}
use Rattle.base_scope.specs.Codes.{LATE_RODATA}
use Rattle.symbols_taken.specs.Code.{is_section_in}
use Rattle.symbols_taken.proofs.Sections.{code_found}
use native.Mathlib.Omega.{arith}
use Prim.Native.Nat.{◌+◌}
use mathlib.Core.Path.{◌≡◌, refl, sym, ◌∙◌}
use Rattle.symbols_taken.proofs.code_of.Goals as goal

pub loop-code-init : goal.loop-code-init
loop-code-init c = refl

pub returns-then-is_section_in : goal.returns-then-is_section_in
returns-then-is_section_in c =
    let a = c.args in
    let l = c.loop-code in
    (code_found a.view a.s l.code (l.invariant ∙ first_here (is_section_in a.view a.s) l.code (LATE_RODATA + 1) (omega arith) (sym c.is_section_in.ensures ∙ c.if-is_section_in.true)), omega arith, omega arith)

pub loop-code-preserved : goal.loop-code-preserved
loop-code-preserved c =
    let a = c.args in
    let l = c.loop-code in
    l.invariant ∙ first_next (is_section_in a.view a.s) l.code (LATE_RODATA + 1) (omega arith) (sym c.is_section_in.ensures ∙ c.if-is_section_in.false)

pub returns : goal.returns
returns c =
    let a = c.args in
    let l = c.loop-code in
    let e : l.code ≡ LATE_RODATA + 1 = omega arith in
    (code_found a.view a.s (LATE_RODATA + 1) (l.invariant ∙ first_end (is_section_in a.view a.s) l.code (LATE_RODATA + 1) (omega arith) ∙ e), omega arith, omega arith)
