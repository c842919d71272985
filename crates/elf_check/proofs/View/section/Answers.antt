-- The array is read where the code stands. Assumes nothing.
use Rattle.elf_check.specs.View.{section_in}
use mathlib.Core.Path.{refl}
use Rattle.elf_check.proofs.View.section.Goals as goal

pub returns : goal.returns
unfolding section_in
returns c = refl
