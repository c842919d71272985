-- A case each. Assumes nothing.
use mathlib.Core.Path.{sym}
use native.Mathlib.Omega.{arith}
use Rattle.carry_entries.proofs.Entries.{stands_same, stands_left, stands_stuck}
use Rattle.carry_entries.proofs.stands_at.Goals as goal

pub returns-in-To : goal.returns-in-To
returns-in-To c = stands_same _ _ (sym c.in-To.is) (omega arith)

pub returns-in-LeftOut : goal.returns-in-LeftOut
returns-in-LeftOut c = stands_left _ c.in-LeftOut.is

pub returns-in-Unmoved : goal.returns-in-Unmoved
returns-in-Unmoved c = stands_stuck _ c.in-Unmoved.is
