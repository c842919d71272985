-- `merge_labels::is_mislabelled` meets its contract. Assumes nothing.
use Rattle.blocks_places.specs.Lines.{line_count}
use Rattle.blocks_places.specs.Table.{places_in}
use Rattle.blocks_places.proofs.Walk.{laid_taken, laid_inside}
use Rattle.merge_labels.proofs.Labels.{mislabelled_taken, mislabelled_off}
use mathlib.Core.Path.{sym, ap, ◌∙◌}
use mathlib.Core.Bool.{not}
use Rattle.merge_labels.proofs.is_mislabelled.Goals as goal

pub is_taken-requires : goal.is_taken-requires
is_taken-requires c =
    let a = c.args in
    let P = places_in a.places.now (line_count a.file.now) in
    laid_inside P a.file.now a.table.now a.places.now c.requires.1 a.j c.requires.2

pub is_lined-lined-requires : goal.is_lined-lined-requires
is_lined-lined-requires c =
    let a = c.args in
    let P = places_in a.places.now (line_count a.file.now) in
    (c.requires.0, c.requires.1, c.requires.2, (sym (laid_taken P a.file.now a.table.now a.places.now c.requires.1 a.j c.requires.2) ∙ sym c.is_taken.ensures ∙ c.if-is_taken.true), c.requires.3)

pub returns-then-is_taken : goal.returns-then-is_taken
returns-then-is_taken c =
    let a = c.args in
    let P = places_in a.places.now (line_count a.file.now) in
    ap not c.is_lined-lined.ensures ∙ mislabelled_taken a.order a.assembled.now P a.file.now a.j (sym (laid_taken P a.file.now a.table.now a.places.now c.requires.1 a.j c.requires.2) ∙ sym c.is_taken.ensures ∙ c.if-is_taken.true)

pub returns : goal.returns
returns c =
    let a = c.args in
    let P = places_in a.places.now (line_count a.file.now) in
    mislabelled_off a.order a.assembled.now P a.file.now a.j (sym (laid_taken P a.file.now a.table.now a.places.now c.requires.1 a.j c.requires.2) ∙ sym c.is_taken.ensures ∙ c.if-is_taken.false)
