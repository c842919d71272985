-- A case each. Assumes nothing.
use native.Mathlib.Omega.{arith}
use Rattle.elf_relocations.proofs.Relocations.{width_rela, width_rel}
use Rattle.elf_relocations.proofs.width_of.Goals as goal

pub returns-then-rela : goal.returns-then-rela
returns-then-rela c = (width_rela c.args.rela c.if-rela.true, omega arith, omega arith)

pub returns-else-rela : goal.returns-else-rela
returns-else-rela c = (width_rel c.args.rela c.if-rela.false, omega arith, omega arith)
