-- The name stands behind those before it, and the rest is by the table that opens the section. Assumes nothing.
use Rattle.write_merged.proofs.Merged.{ready_still, strings_stay, name_fits, link_fits, info_fits, new_is}
use native.Mathlib.Omega.{arith}
use mathlib.Core.Path.{refl, ◌∙◌}
use Rattle.write_merged.proofs.new_heading.Goals as goal

pub new_name_at-name-requires : goal.new_name_at-name-requires
new_name_at-name-requires c =
    let a = c.args in
    let p = c.requires in
    (p.0.held, strings_stay a.compiled.now a.assembled.now a.file.now a.path.now a.x a.table.now a.places.now a.steps.now a.index.now p.0, omega (arith, p.1))

pub opened_key-key-requires : goal.opened_key-key-requires
opened_key-key-requires c =
    let a = c.args in
    let p = c.requires in
    (ready_still a.compiled.now a.assembled.now a.file.now a.path.now a.x a.table.now a.places.now a.steps.now a.index.now p.0 _ c.new_name_at-name.ensures.1, p.1)

pub section-target-requires : goal.section-target-requires
section-target-requires c = (c.opened_key-key.ensures.1, omega (arith, c.opened_key-key.ensures.2))

pub overflow_cast-name : goal.overflow_cast-name
overflow_cast-name c =
    let a = c.args in
    let p = c.requires in
    record { fits = omega (arith, name_fits a.compiled.now a.assembled.now a.file.now a.path.now a.x a.table.now a.places.now a.steps.now a.index.now p.0 a.i p.1, c.new_name_at-name.ensures.0) }

pub overflow_cast-own : goal.overflow_cast-own
overflow_cast-own c =
    let a = c.args in
    let p = c.requires in
    record { fits = omega (arith, link_fits a.compiled.now a.assembled.now a.file.now a.path.now a.x a.table.now a.places.now a.steps.now a.index.now p.0 a.i p.1) }

pub overflow_cast-target : goal.overflow_cast-target
overflow_cast-target c =
    let a = c.args in
    let p = c.requires in
    let k = c.opened_key-key.ensures in
    record { fits = omega (arith, info_fits a.compiled.now a.assembled.now a.file.now a.path.now a.x a.table.now a.places.now a.steps.now a.index.now p.0 a.i p.1 _ k.0 k.1 k.2, c.section-target.ensures) }

pub returns : goal.returns
returns c =
    let a = c.args in
    let p = c.requires in
    let k = c.opened_key-key.ensures in (
      c.opened_heading.ensures ∙ new_is a.compiled.now a.assembled.now a.file.now a.path.now a.x a.table.now a.places.now a.steps.now a.index.now p.0 a.i p.1 _ k.0 k.1 k.2 _ _ _ c.new_name_at-name.ensures.0 refl c.section-target.ensures,
      c.new_name_at-name.ensures.1,
    )
