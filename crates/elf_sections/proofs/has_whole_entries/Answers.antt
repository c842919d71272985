-- The two arms are the two cases of `whole_entries`. Assumes nothing.
use Rattle.elf_sections.proofs.Headers.{entries_none, entries_some}
use Rattle.elf_sections.proofs.has_whole_entries.Goals as goal

pub returns-then-entsize-eq0 : goal.returns-then-entsize-eq0
returns-then-entsize-eq0 c = entries_none c.args.h c.if-entsize-eq0.true

pub returns : goal.returns
returns c = entries_some c.args.h c.if-entsize-eq0.false
