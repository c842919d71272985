-- `blocks_places::step_of` meets its contract: a line that has a label and is reached is left to `label_step`, and any other changes nothing.
-- Assumes nothing.
use Rattle.base_lists.proofs.Ranges.{and_parts}
use Rattle.blocks_places.specs.Lines.{labelled}
use Rattle.blocks_places.specs.Places.{reached}
use Rattle.blocks_places.specs.Table.{off_step}
use Rattle.blocks_places.proofs.Walk.{step_off}
use mathlib.Core.Bool.{◌&&◌, false}
use mathlib.Core.Path.{◌≡◌, sym, ap, ◌∙◌}
use Rattle.blocks_places.proofs.step_of.Goals as goal

pub label_step-requires : goal.label_step-requires
label_step-requires c =
    let a = c.args in
    let p = c.requires in
    let t = and_parts _ _ (sym c.both.ensures ∙ c.if-both.true) in
    (p.0, p.1, sym c.is_labelled.ensures ∙ t.0, sym p.2 ∙ t.1)

pub returns-then-both : goal.returns-then-both
returns-then-both c = c.label_step.ensures

pub returns : goal.returns
returns c =
    let a = c.args in
    let p = c.requires in
    let f : (labelled a.file.now a.j && reached a.order a.compiled.now a.file.now a.j) ≡ false =
    rw (← c.is_labelled.ensures, ← p.2) (sym c.both.ensures ∙ c.if-both.false) in
    c.off_step.ensures
    ∙ ap (off_step false a.end) c.on_after.ensures
    ∙ step_off a.order a.compiled.now a.file.now a.j a.end a.on p.0.inside f p.1 p.2
