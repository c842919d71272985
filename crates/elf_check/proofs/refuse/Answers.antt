-- A test that found nothing passes; what it found is refused under its number. Assumes nothing.
use mathlib.Core.Path.{sym}
use Rattle.elf_check.proofs.Object.{refuse_at, refuse_clear}
use Rattle.elf_check.proofs.refuse.Goals as goal

pub returns-in-None : goal.returns-in-None
returns-in-None c = refuse_clear c.args.number _ _ c.in-None.is

pub returns-in-Some : goal.returns-in-Some
returns-in-Some c = refuse_at c.args.number _ _ _ c.in-Some.is
