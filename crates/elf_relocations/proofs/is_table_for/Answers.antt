-- The two tests of `relocates`, the second where the first holds. Assumes nothing.
use Rattle.elf_relocations.proofs.Relocations.{relocates_read, relocates_none}
use mathlib.Core.Path.{sym, ◌∙◌}
use Rattle.elf_relocations.proofs.is_table_for.Goals as goal

pub returns-then-is_table : goal.returns-then-is_table
returns-then-is_table c =
    let a = c.args in
    relocates_read a.order a.file.now a.i _ c.section_at-h.ensures a.s (sym c.is_table.ensures ∙ c.if-is_table.true)

pub returns : goal.returns
returns c =
    let a = c.args in
    relocates_none a.order a.file.now a.i a.s (sym c.is_table.ensures ∙ c.if-is_table.false)
