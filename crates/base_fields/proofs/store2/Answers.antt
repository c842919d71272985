-- `base_fields::store2` meets its contract: two stores side by side are one write of two bytes.
-- Assumes nothing.
use native.Mathlib.Omega.{arith}
use lib.ListN.{length-set}
use Rattle.base_fields.proofs.Stores.{stored_2}
use Rattle.base_fields.proofs.store2.Goals as goal

pub bounds-s-at-2 : goal.bounds-s-at-2
bounds-s-at-2 c = simp length-set (omega arith)

pub returns : goal.returns
returns c = stored_2 c.args.s.now c.args.at c.args.a c.args.b c.requires
