-- The homes in hand say which of A's tables opens the section. Assumes nothing.
use Rattle.write_merged.proofs.Merged.{rows_long, rows_listed, opener_is, opener_below, total_few}
use Rattle.carry_homes.specs.Code.{home_key}
use native.Mathlib.Omega.{arith}
use mathlib.Core.Path.{ap, ◌∙◌}
use Rattle.write_merged.proofs.opened_key.Goals as goal

pub part-homes-requires : goal.part-homes-requires
part-homes-requires c = omega (arith, c.requires.0.held.buffers.places_long)

pub opened_by-j-requires : goal.opened_by-j-requires
opened_by-j-requires c =
    let a = c.args in
    let p = c.requires in
    (rows_long a.compiled.now a.assembled.now a.file.now a.path.now a.x a.table.now a.places.now a.steps.now a.index.now p.0 a.i p.1 _ c.part-homes.ensures, omega (arith, total_few a.compiled.now a.assembled.now a.file.now a.path.now a.x a.table.now a.places.now a.steps.now a.index.now p.0, p.1))

pub home_name-requires : goal.home_name-requires
home_name-requires c =
    let a = c.args in
    let p = c.requires in (
      p.0.held.read.read.assembled,
      rows_listed a.compiled.now a.assembled.now a.file.now a.path.now a.x a.table.now a.places.now a.steps.now a.index.now p.0 a.i p.1 _ c.part-homes.ensures,
      omega (arith, opener_below a.compiled.now a.assembled.now a.file.now a.path.now a.x a.table.now a.places.now a.steps.now a.index.now p.0 a.i p.1, c.opened_by-j.ensures, opener_is a.compiled.now a.assembled.now a.file.now a.path.now a.x a.table.now a.places.now a.steps.now a.index.now p.0 a.i p.1 _ c.part-homes.ensures),
    )

pub returns : goal.returns
returns c =
    let a = c.args in
    let p = c.requires in
    let e = c.opened_by-j.ensures ∙ opener_is a.compiled.now a.assembled.now a.file.now a.path.now a.x a.table.now a.places.now a.steps.now a.index.now p.0 a.i p.1 _ c.part-homes.ensures in
    (c.home_name.ensures.0 ∙ ap (home_key a.x.stage.inputs.order a.assembled.now) e, c.home_name.ensures.1, c.home_name.ensures.2)
