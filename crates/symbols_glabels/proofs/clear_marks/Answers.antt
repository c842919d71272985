-- The front of the table is zeroed, so its words are. Assumes nothing.
use Rattle.symbols_glabels.proofs.Words.{cleared}
use native.Mathlib.Omega.{arith}
use Prim.Native.Nat.{zero, ◌-◌, ◌*◌}
use Rattle.symbols_glabels.proofs.clear_marks.Goals as goal

pub returns : goal.returns
returns c =
    let a = c.args in
    cleared a.n (4 * a.n - 0) a.marks.now _ (omega arith) (omega (arith, c.requires.0, c.requires.1)) c.zero.ensures
