-- `late_lookups::is_start` meets its contract: the tests say which case of `is_start` holds. Assumes nothing.
use Rattle.late_lookups.proofs.Fields.{start_low, start_is}
use native.Mathlib.Omega.{arith}
use Rattle.late_lookups.proofs.is_start.Goals as goal

pub returns-then-x-source : goal.returns-then-x-source
returns-then-x-source c =
    let a = c.args in
    start_low a.late.now a.i a.x (omega (arith, c.field_at-source.ensures.0))

pub returns : goal.returns
returns c =
    let a = c.args in
    start_is a.late.now a.i a.x c.field_at-source.result c.field_at-source.ensures.0 (omega arith)
