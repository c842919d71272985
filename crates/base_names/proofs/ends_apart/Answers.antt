-- `base_names::ends_apart` meets its contract: a string without bytes and one that would pass the end do not end apart; else the byte decides. Assumes nothing.
use Rattle.base_names.proofs.Ends.{ends_none, ends_past, ends_by}
use native.Mathlib.Omega.{arith}
use Rattle.base_names.proofs.ends_apart.Goals as goal

pub returns-then-n-eq0 : goal.returns-then-n-eq0
returns-then-n-eq0 c = let a = c.args in ends_none a.t.now a.at a.s.now c.if-n-eq0.true

pub returns-then-at-t : goal.returns-then-at-t
returns-then-at-t c = let a = c.args in ends_past a.t.now a.at a.s.now (omega arith)

pub returns-then-t-at : goal.returns-then-t-at
returns-then-t-at c = let a = c.args in ends_past a.t.now a.at a.s.now (omega arith)

pub returns : goal.returns
returns c = let a = c.args in ends_by a.t.now a.at a.s.now (omega arith) (omega arith)
