-- `late_lookups::field_at` meets its contract: it is the number read. Assumes nothing.
use Rattle.late_lookups.proofs.Fields.{field_read}
use native.Mathlib.Omega.{arith}
use Rattle.late_lookups.proofs.field_at.Goals as goal

pub returns : goal.returns
returns c =
    let a = c.args in
    (field_read a.late.now a.f a.i c.read32.result c.read32.ensures, omega arith)
