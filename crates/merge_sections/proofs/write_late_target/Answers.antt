-- `merge_sections::write_late_target` meets its contract: up to the last span block copying, behind it C's bytes, A's late bytes and zeros. Assumes nothing.
use Rattle.blocks_spans.specs.Spans.{spans_of}
use Rattle.blocks_places.specs.Table.{places_in}
use Rattle.blocks_places.specs.Lines.{line_count}
use lib.Seq.{length-take-le}
use Rattle.base_scope.specs.Codes.{LATE_TARGET}
use Rattle.merge_sections.proofs.Sections.{target_holds, ends_last, front_ends, last_inside, step_last, moving, target_written, target_still, front_as, rest_as, rest_hand}
use native.Mathlib.Omega.{arith}
use Prim.Native.Nat.{ℕ, ◌+◌, ◌≤◌}
use mathlib.Core.Path.{sym, ap}
use mathlib.Core.List.{List}
use lib.ListN.{length}
use Rattle.merge_sections.proofs.write_late_target.Goals as goal

pub coded_contents-target-requires : goal.coded_contents-target-requires
coded_contents-target-requires c =
    (c.requires.0.read.compiled, omega arith, omega arith)

pub coded_contents-source-requires : goal.coded_contents-source-requires
coded_contents-source-requires c =
    (c.requires.0.read.assembled, omega arith, omega arith)

pub coded_contents-words-requires : goal.coded_contents-words-requires
coded_contents-words-requires c =
    (c.requires.0.read.assembled, omega arith, omega arith)

pub slice_bounds-front-end : goal.slice_bounds-front-end
slice_bounds-front-end c =
    let a = c.args in
    let few : a.stage.step.last ≤ length c.coded_contents-target.result.now = rw c.coded_contents-target.ensures (last_inside a.compiled.now a.assembled.now a.file.now a.stage a.table.now a.places.now c.requires.0) in
    sym (length-take-le a.stage.step.last _ few)

pub write_copied-requires : goal.write_copied-requires
write_copied-requires c =
    let a = c.args in
    let P = places_in a.places.now (line_count a.file.now) in
    let x = c.coded_contents-target.ensures in
    let y = c.coded_contents-source.ensures in
    let few : a.stage.step.last ≤ length c.coded_contents-target.result.now = rw x (last_inside a.compiled.now a.assembled.now a.file.now a.stage a.table.now a.places.now c.requires.0) in
    let L = spans_of P a.file.now LATE_TARGET in
    (c.requires.0.read.laid, c.requires.0.read.many, front_ends L _ a.stage.step.last few (ends_last P a.file.now c.requires.0.read.laid.fitting LATE_TARGET _ (step_last a.compiled.now a.assembled.now a.file.now a.stage a.table.now a.places.now c.requires.0)), rw y (c.requires.0.agrees.complete.assembled_ends LATE_TARGET target_holds), omega (arith, length-take-le a.stage.step.last c.coded_contents-target.result.now few, last_inside a.compiled.now a.assembled.now a.file.now a.stage a.table.now a.places.now c.requires.0, c.requires.2))

pub write_rest-requires : goal.write_rest-requires
write_rest-requires c =
    let a = c.args in
    let P = places_in a.places.now (line_count a.file.now) in
    let x = c.coded_contents-target.ensures in
    let y = c.coded_contents-words.ensures in
    (rest_hand _ P a.file.now _ _ a.table.now a.late.now _ _ _ _ x y (moving a.compiled.now a.assembled.now a.file.now a.stage a.table.now a.places.now c.requires.0 c.if-step.true a.late.now c.requires.1), c.requires.0.read.many, omega (arith, c.requires.2, ap length x, c.write_copied.auto))

pub overflow_add-result : goal.overflow_add-result
overflow_add-result c =
    omega (arith, c.requires.2, ap length c.coded_contents-target.ensures)

pub returns-then-step : goal.returns-then-step
returns-then-step c =
    let a = c.args in
    let P = places_in a.places.now (line_count a.file.now) in
    let x = c.coded_contents-target.ensures in
    let y = c.coded_contents-source.ensures in
    let z = c.coded_contents-words.ensures in (
      ap (λ (l : List ℕ). a.at + length l) x,
      target_written a.compiled.now a.assembled.now a.file.now a.stage a.table.now a.places.now c.requires.0 c.if-step.true a.late.now c.requires.1 a.stage.inputs.blocks a.at c.requires.0.read.many a.out.now _ _ c.requires.2
          (front_as a.out.now a.at a.stage.step.last (spans_of P a.file.now LATE_TARGET) _ _ _ _ _ x y (last_inside a.compiled.now a.assembled.now a.file.now a.stage a.table.now a.places.now c.requires.0) c.write_copied.ensures)
          (rest_as _ _ a.at a.stage.step.last _ a.file.now _ _ _ _ a.late.now _ x z c.write_rest.ensures),
    )

pub write_section-requires : goal.write_section-requires
write_section-requires c =
    (c.requires.0.read, c.requires.0.agrees.complete, target_holds, c.requires.2)

pub returns : goal.returns
returns c =
    let a = c.args in
    (c.write_section.ensures.0, target_still a.compiled.now a.assembled.now a.file.now a.stage a.table.now a.places.now c.requires.0 c.if-step.false a.at a.out.now _ c.write_section.ensures.1)
