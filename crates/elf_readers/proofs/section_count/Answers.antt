-- e_shnum is the half at 48. Assumes nothing.
use Rattle.elf_readers.proofs.Readers.{count_at}
use mathlib.Core.Path.{sym, ◌∙◌}
use Rattle.elf_readers.proofs.section_count.Goals as goal

pub returns : goal.returns
returns c = (c.read16.ensures.0 ∙ sym (count_at c.args.order c.args.file.now), c.read16.ensures.1)
