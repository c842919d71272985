-- `merge_sections::late_fault` meets its contract: the late step searches C's own bytes of its target. Assumes nothing.
use Rattle.blocks_places.specs.Lines.{line_count}
use Rattle.blocks_places.specs.Table.{places_in}
use Rattle.merge_sections.proofs.Sections.{found_step, found_still}
use native.Mathlib.Omega.{arith}
use Rattle.merge_sections.proofs.late_fault.Goals as goal

pub coded_contents-target-requires : goal.coded_contents-target-requires
coded_contents-target-requires c =
    let a = c.args in
    (c.requires.0.compiled, omega arith, omega arith)

pub place_late-requires : goal.place_late-requires
place_late-requires c =
    let a = c.args in
    let P = places_in a.places.now (line_count a.file.now) in
    (rw c.coded_contents-target.ensures (c.requires.0.ready c.if-step.true), c.requires.1)

pub returns-then-step : goal.returns-then-step
returns-then-step c =
    let a = c.args in
    found_step a.compiled.now a.file.now a.stage a.table.now a.places.now c.requires.0 c.if-step.true _ c.coded_contents-target.ensures _ _ _ c.requires.1 c.place_late.ensures

pub returns : goal.returns
returns c =
    let a = c.args in
    found_still a.compiled.now a.file.now a.stage a.table.now a.places.now c.requires.0 c.if-step.false _
