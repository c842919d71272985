-- The two arms are the two cases of `null_section_sound`. Assumes nothing.
use Rattle.elf_sections.proofs.Headers.{null_first, null_other}
use mathlib.Core.Path.{◌∙◌}
use Rattle.elf_sections.proofs.is_null_section_sound.Goals as goal

pub returns-then-i-eq0 : goal.returns-then-i-eq0
returns-then-i-eq0 c = c.both.ensures ∙ null_first c.args.h c.args.i c.if-i-eq0.true

pub returns : goal.returns
returns c = null_other c.args.h c.args.i c.if-i-eq0.false
