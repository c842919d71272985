-- The count of its bytes, which is below 2 ^ 32. Assumes nothing.
use Rattle.write_merged.proofs.Merged.{held_content, size_fits}
use native.Mathlib.Omega.{arith}
use mathlib.Core.Path.{sym, ap, ◌∙◌}
use lib.ListN.{length}
use Rattle.write_merged.proofs.measure_section.Goals as goal

pub planned_size-requires : goal.planned_size-requires
planned_size-requires c = c.requires.0.held

pub overflow_cast-result : goal.overflow_cast-result
overflow_cast-result c =
    let a = c.args in
    let p = c.requires in
    record { fits = omega (arith, size_fits a.compiled.now a.assembled.now a.file.now a.path.now a.x a.table.now a.places.now a.steps.now a.index.now p.0 a.i p.1, ap length (held_content a.compiled.now a.assembled.now a.file.now a.path.now a.x a.table.now a.places.now a.steps.now a.index.now p.0 a.i), c.planned_size.ensures.0) }

pub returns : goal.returns
returns c =
    let a = c.args in
    (c.planned_size.ensures.0 ∙ ap length (sym (held_content a.compiled.now a.assembled.now a.file.now a.path.now a.x a.table.now a.places.now a.steps.now a.index.now c.requires.0 a.i)), c.planned_size.ensures.2)
