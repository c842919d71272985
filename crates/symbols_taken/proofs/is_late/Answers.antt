-- A section of that code is the one that the view has for it; else the codes are asked. Assumes nothing.
use Rattle.base_scope.specs.Codes.{LATE_RODATA}
use Rattle.symbols_taken.specs.Code.{code_in}
use Rattle.symbols_taken.proofs.Sections.{late_section}
use borrow.Author.Tests.{ne_eqb}
use mathlib.Core.Path.{sym, ap, ◌∙◌}
use Prim.Native.Nat.{ℕ}
use lib.Dec.{eqb}
use Rattle.symbols_taken.proofs.is_late.Goals as goal

pub returns-then-section-s : goal.returns-then-section-s
returns-then-section-s c =
    let a = c.args in
    sym (ne_eqb (code_in a.view a.s) LATE_RODATA (λ e. c.if-section-s.true (c.section.ensures ∙ late_section a.view a.s e)))

pub returns : goal.returns
returns c =
    ap (λ (x : ℕ). eqb x LATE_RODATA) c.code_of.ensures.0
