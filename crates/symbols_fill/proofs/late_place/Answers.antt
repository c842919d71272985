-- The table answers where the step runs; a place in it is a word. Assumes nothing.
use Rattle.symbols_fill.proofs.Places.{place_small, late_moved, late_unmoved, late_idle}
use native.Mathlib.Omega.{arith}
use Rattle.symbols_fill.proofs.late_place.Goals as goal

pub offset_at-requires : goal.offset_at-requires
offset_at-requires c = c.requires c.if-runs.true

pub overflow_cast-result : goal.overflow_cast-result
overflow_cast-result c =
    let a = c.args in
    record { fits = place_small a.late.now (λ i. omega (arith, c.type_inv.late i)) a.blocks a.x _ _ c.offset_at.ensures c.in-Some.is }

pub returns-in-Some : goal.returns-in-Some
returns-in-Some c =
    let a = c.args in
    late_moved a.runs a.late.now a.blocks a.x _ _ c.if-runs.true c.offset_at.ensures c.in-Some.is

pub returns-in-None : goal.returns-in-None
returns-in-None c =
    let a = c.args in
    late_unmoved a.runs a.late.now a.blocks a.x _ c.if-runs.true c.offset_at.ensures c.in-None.is

pub returns : goal.returns
returns c =
    let a = c.args in
    late_idle a.runs a.late.now a.blocks a.x c.if-runs.false
