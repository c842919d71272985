-- The count first, then the search for a section that is not sound. Assumes nothing.
use Rattle.elf_sections.proofs.Headers.{fault_counted, fault_uncounted}
use mathlib.Core.Path.{sym, ◌∙◌}
use Rattle.elf_sections.proofs.section_fault.Goals as goal

pub returns-then-both : goal.returns-then-both
returns-then-both c =
    let a = c.args in
    c.found_below.ensures ∙ fault_counted a.order a.file.now _ c.section_count-n.ensures.0 _ (sym c.both.ensures ∙ c.if-both.true) c.first_bad_section-bad.ensures

pub returns : goal.returns
returns c =
    let a = c.args in
    fault_uncounted a.order a.file.now _ c.section_count-n.ensures.0 (sym c.both.ensures ∙ c.if-both.false)
