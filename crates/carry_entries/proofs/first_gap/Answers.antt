-- The gap before all spans; all offsets; or none. Assumes nothing.
use mathlib.Core.Path.{refl, sym, ◌∙◌}
use native.Mathlib.Omega.{arith}
use Rattle.carry_entries.proofs.Goals.{stays_gap, stays_still, stays_none}
use Rattle.carry_entries.proofs.first_gap.Goals as goal

pub gap_before-requires : goal.gap_before-requires
gap_before-requires c = (c.requires, omega arith)

pub returns-then-is_sought : goal.returns-then-is_sought
returns-then-is_sought c =
    let a = c.args in
    let p = c.is_sought.ensures c.if-is_sought.true in
    λ late. stays_gap a.side a.code a.rows.now late p.0 p.1 _ c.gap_before.ensures

pub returns-then-is_still : goal.returns-then-is_still
returns-then-is_still c =
    let a = c.args in
    λ late. stays_still a.side a.code a.rows.now late (sym c.is_still.ensures ∙ c.if-is_still.true) _

pub returns : goal.returns
returns c =
    let a = c.args in
    λ late. stays_none a.side a.code a.rows.now late _ refl
