-- `elf_check::has_coded` meets its contract. Assumes nothing.
use Rattle.elf_check.specs.View.{has_in}
use Prim.Native.Nat.{ℕ}
use mathlib.Core.Path.{ap}
use lib.Dec.{ltb}
use Rattle.elf_check.proofs.has_coded.Goals as goal

pub returns : goal.returns
unfolding has_in
returns c =
    let a = c.args in
    ap (λ (i : ℕ). ltb i a.view.sections) c.section.ensures
