-- `base_text::append` meets its contract: the end is counted in any case, and where it lies in the output the bytes are copied there, else
-- nothing is touched. Assumes nothing.
use Rattle.base_lists.proofs.Written.{written_copy, written_short}
use Prim.Native.Nat.{◌+◌}
use mathlib.Core.Path.{refl}
use lib.ListN.{length}
use Rattle.base_text.proofs.append.Goals as goal

pub returns-then-end-out : goal.returns-then-end-out
returns-then-end-out c =
    let a = c.args in
    let w = c.write_bytes in
    written_copy a.out.now a.at a.s.now (a.at + length a.s.now) _ refl w.auto.s w.ensures

pub returns-else-end-out : goal.returns-else-end-out
returns-else-end-out c =
    let a = c.args in
    written_short a.out.now a.at a.s.now (a.at + length a.s.now) refl c.if-end-out.false
