-- A name that starts below the last zero byte has an end, and is then tested byte by byte. Assumes nothing.
use Rattle.elf_sections.proofs.Names.{name_ended, name_open}
use Rattle.base_lists.specs.Strings.{ascii}
use mathlib.Core.Path.{ap, ◌∙◌}
use Rattle.elf_sections.proofs.is_name_sound.Goals as goal

pub returns-then-at-ends : goal.returns-then-at-ends
returns-then-at-ends c =
    let a = c.args in
    let q = c.requires in
    c.is_ascii.ensures ∙ ap ascii c.name_at.ensures ∙ name_ended a.order a.file.now a.strings.now a.ends a.i q.0 _ c.name_place-at.ensures c.if-at-ends.true

pub returns : goal.returns
returns c =
    let a = c.args in
    let q = c.requires in
    name_open a.order a.file.now a.strings.now a.ends a.i q.0 _ c.name_place-at.ensures c.if-at-ends.false
