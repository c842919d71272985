-- The table answers where the step runs; a place in it is a word. Assumes nothing.
use native.Mathlib.Omega.{arith}
use Rattle.symbols_fill.proofs.Places.{place_small}
use Rattle.carry_entries.proofs.Goals.{late_to, late_stuck, late_idle}
use Rattle.carry_entries.proofs.late_goal.Goals as goal

pub offset_at-requires : goal.offset_at-requires
offset_at-requires c = c.requires c.if-runs.true

pub overflow_cast-result : goal.overflow_cast-result
overflow_cast-result c =
    let offset_at = c.offset_at in
    let a = c.args in
    let shared-slice-known = c.shared_slice_known-1 in
    record { fits = place_small a.late.now (λ i. omega (arith, c.type_inv.late i)) a.blocks a.x _ _ offset_at.ensures c.in-Some.is }

pub returns-in-Some : goal.returns-in-Some
returns-in-Some c =
    let if1 = c.if-runs in
    let offset_at = c.offset_at in
    let a = c.args in
    late_to a.runs a.late.now a.blocks a.x _ _ if1.true offset_at.ensures c.in-Some.is

pub returns-in-None : goal.returns-in-None
returns-in-None c =
    let if1 = c.if-runs in
    let offset_at = c.offset_at in
    let a = c.args in
    late_stuck a.runs a.late.now a.blocks a.x _ if1.true offset_at.ensures c.in-None.is

pub returns : goal.returns
returns c =
    let if1 = c.if-runs in
    let a = c.args in
    late_idle a.runs a.late.now a.blocks a.x if1.false
