-- `merge_labels::is_lined` meets its contract: what is read of the line and of the view is what the definition asks. Assumes nothing.
use Rattle.base_scope.specs.Codes.{line_code}
use Rattle.base_scope.specs.Text.{text}
use Rattle.elf_check.specs.View.{section_in}
use Rattle.elf_check.proofs.Views.{view_section, view_table}
use Rattle.blocks_places.specs.Lines.{line_count}
use Rattle.blocks_places.specs.Table.{places_in}
use Rattle.blocks_places.proofs.Walk.{laid_place, laid_inside}
use Rattle.merge_labels.proofs.Labels.{lined_both, lined_not}
use mathlib.Core.Path.{sym, ap, ◌∙◌}
use native.Mathlib.Omega.{arith}
use Rattle.merge_labels.proofs.is_lined.Goals as goal

pub section-section-requires : goal.section-section-requires
section-section-requires c =
    let a = c.args in
    (omega (arith, c.line_code.ensures.0), omega (arith, c.line_code.ensures.0))

pub span_label-label-requires : goal.span_label-label-requires
span_label-label-requires c =
    let a = c.args in
    let P = places_in a.places.now (line_count a.file.now) in
    (c.requires.1.parsed, c.requires.2)

pub place_of-place-requires : goal.place_of-place-requires
place_of-place-requires c =
    let a = c.args in
    let P = places_in a.places.now (line_count a.file.now) in
    laid_inside P a.file.now a.table.now a.places.now c.requires.1 a.j c.requires.2

pub size_of-requires : goal.size_of-requires
size_of-requires c =
    let a = c.args in
    let P = places_in a.places.now (line_count a.file.now) in
    laid_inside P a.file.now a.table.now a.places.now c.requires.1 a.j c.requires.2

pub is_label_at-requires : goal.is_label_at-requires
is_label_at-requires c =
    let a = c.args in
    (view_table a.order a.assembled.now a.view c.requires.0.is c.requires.0.tabled, c.requires.4)

pub is_label_at-requires-then-is_label_at : goal.is_label_at-requires-then-is_label_at
is_label_at-requires-then-is_label_at c =
    let a = c.args in
    (view_table a.order a.assembled.now a.view c.requires.0.is c.requires.0.tabled, c.requires.4)

pub returns-then-is_label_at : goal.returns-then-is_label_at
unfolding text
returns-then-is_label_at c =
    let a = c.args in
    let P = places_in a.places.now (line_count a.file.now) in
    c.is_label_at-then-is_label_at.ensures ∙ lined_both a.order a.assembled.now P a.file.now a.j _ _ _ _ (c.section-section.ensures ∙ ap (section_in a.view) c.line_code.ensures.0 ∙ view_section a.order a.assembled.now a.view c.requires.0.is (line_code a.j) (omega arith) (omega arith)) c.span_label-label.ensures (c.place_of-place.ensures.0 ∙ laid_place P a.file.now a.table.now a.places.now c.requires.1 a.j c.requires.2) (c.size_of.ensures.0 ∙ c.requires.1.sizes a.j c.requires.3) (sym c.is_label_at.ensures ∙ c.if-is_label_at.true)

pub returns : goal.returns
unfolding text
returns c =
    let a = c.args in
    let P = places_in a.places.now (line_count a.file.now) in
    lined_not a.order a.assembled.now P a.file.now a.j _ _ _ _ (c.section-section.ensures ∙ ap (section_in a.view) c.line_code.ensures.0 ∙ view_section a.order a.assembled.now a.view c.requires.0.is (line_code a.j) (omega arith) (omega arith)) c.span_label-label.ensures (c.place_of-place.ensures.0 ∙ laid_place P a.file.now a.table.now a.places.now c.requires.1 a.j c.requires.2) (c.size_of.ensures.0 ∙ c.requires.1.sizes a.j c.requires.3) (sym c.is_label_at.ensures ∙ c.if-is_label_at.false)
