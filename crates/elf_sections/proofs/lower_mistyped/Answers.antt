-- The lower of two numbers, where the section is mistyped. Assumes nothing.
use Rattle.elf_sections.specs.Names.{coded_after}
use Rattle.elf_sections.proofs.Names.{lower_taken, lower_kept, lower_none}
use mathlib.Core.Path.{sym, ◌∙◌}
use Rattle.elf_sections.proofs.lower_mistyped.Goals as goal

pub is_mistyped-requires : goal.is_mistyped-requires
unfolding coded_after
is_mistyped-requires c =
    let q = c.requires in
    (q.0, q.1, c.coded_section-k.ensures)

pub returns-then-k-lowest : goal.returns-then-k-lowest
unfolding coded_after
returns-then-k-lowest c =
    let a = c.args in
    lower_taken a.order a.file.now a.i _ c.coded_section-k.ensures a.lowest (sym c.is_mistyped.ensures ∙ c.if-is_mistyped.true) c.if-k-lowest.true

pub returns-then-is_mistyped : goal.returns-then-is_mistyped
unfolding coded_after
returns-then-is_mistyped c =
    let a = c.args in
    lower_kept a.order a.file.now a.i _ c.coded_section-k.ensures a.lowest (sym c.is_mistyped.ensures ∙ c.if-is_mistyped.true) c.if-k-lowest.false

pub returns : goal.returns
returns c =
    let a = c.args in
    lower_none a.order a.file.now a.i a.lowest (sym c.is_mistyped.ensures ∙ c.if-is_mistyped.false)
