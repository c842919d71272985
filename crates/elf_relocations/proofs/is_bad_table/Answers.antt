-- A table is bad where it is not sound, and a section that is no table is not. Assumes nothing.
use Rattle.elf_relocations.proofs.Relocations.{bad_table_lem, bad_none}
use mathlib.Core.Path.{sym, ◌∙◌}
use Rattle.elf_relocations.proofs.is_bad_table.Goals as goal

pub returns-then-is_table : goal.returns-then-is_table
returns-then-is_table c =
    let a = c.args in
    bad_table_lem a.order a.file.now a.i _ (sym c.is_table.ensures ∙ c.if-is_table.true) c.is_relocation_table_sound.ensures

pub returns : goal.returns
returns c =
    let a = c.args in
    bad_none a.order a.file.now a.i (sym c.is_table.ensures ∙ c.if-is_table.false)
