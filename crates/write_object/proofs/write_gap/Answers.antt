-- The part between the two places is zeroed and put back. Assumes nothing.
use Rattle.write_object.proofs.Steps.{gap_put}
use Prim.Native.Nat.{zero, ◌-◌}
use mathlib.Core.Path.{refl}
use Rattle.write_object.proofs.write_gap.Goals as goal

pub returns : goal.returns
returns c =
    let a = c.args in
    gap_put a.out.now c.zero.new.s a.from a.to (a.to - a.from) c.requires.0 c.requires.1 refl c.zero.ensures
