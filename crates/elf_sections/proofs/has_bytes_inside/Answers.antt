-- The two arms are the two cases of `bytes_inside`. Assumes nothing.
use Rattle.elf_sections.proofs.Headers.{inside_none, inside_some}
use Rattle.elf_sections.proofs.has_bytes_inside.Goals as goal

pub returns-then-h-eq-SHT_NOBITS : goal.returns-then-h-eq-SHT_NOBITS
returns-then-h-eq-SHT_NOBITS c = inside_none c.args.h c.args.len c.if-h-eq-SHT_NOBITS.true

pub returns : goal.returns
returns c = inside_some c.args.h c.args.len c.if-h-eq-SHT_NOBITS.false
