-- `base_fields::store3` meets its contract: three stores side by side are one write of three bytes.
-- Assumes nothing.
use native.Mathlib.Omega.{arith}
use lib.ListN.{length-set}
use Rattle.base_fields.proofs.Stores.{stored_3}
use Rattle.base_fields.proofs.store3.Goals as goal

pub bounds-s-at-2 : goal.bounds-s-at-2
bounds-s-at-2 c = simp length-set (omega arith)

pub bounds-s-at-3 : goal.bounds-s-at-3
bounds-s-at-3 c = simp length-set (omega arith)

pub returns : goal.returns
returns c = stored_3 c.args.s.now c.args.at c.args.a c.args.b c.args.c c.requires
