-- The type and the size of entries are by whether they have addends. Assumes nothing.
use Rattle.write_merged.proofs.Merged.{opened_rela, opened_rel}
use mathlib.Core.Path.{◌∙◌}
use Rattle.write_merged.proofs.opened_heading.Goals as goal

pub returns-then-rela : goal.returns-then-rela
returns-then-rela c = c.table_heading.ensures ∙ opened_rela _ _ _ _ c.if-rela.true

pub returns : goal.returns
returns c = c.table_heading-2.ensures ∙ opened_rel _ _ _ _ c.if-rela.false
