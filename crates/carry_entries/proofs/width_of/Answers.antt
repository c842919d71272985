-- A case each. Assumes nothing.
use Rattle.carry_entries.proofs.Goals.{width_rela, width_rel}
use Rattle.carry_entries.proofs.width_of.Goals as goal

pub returns-then-rela : goal.returns-then-rela
returns-then-rela c = width_rela c.args.rela c.if-rela.true

pub returns-else-rela : goal.returns-else-rela
returns-else-rela c = width_rel c.args.rela c.if-rela.false
