-- `merge_missing::is_uneven` meets its contract: a line of another code, or one that is not taken, has no span of the code. Assumes nothing.
use Rattle.blocks_places.specs.Lines.{line_count}
use Rattle.blocks_places.specs.Table.{places_in}
use Rattle.blocks_places.proofs.Walk.{laid_taken, laid_place, laid_size, laid_inside}
use Rattle.merge_missing.proofs.Ends.{uneven_code, uneven_off, uneven_taken}
use mathlib.Core.Path.{sym, ap, ◌∙◌}
use mathlib.Core.Bool.{not}
use Rattle.merge_missing.proofs.is_uneven.Goals as goal

pub returns-then-line_code-code : goal.returns-then-line_code-code
returns-then-line_code-code c =
    let a = c.args in
    let P = places_in a.places.now (line_count a.file.now) in
    uneven_code P a.file.now a.code a.j _ c.line_code.ensures.0 c.if-line_code-code.true

pub is_taken-requires : goal.is_taken-requires
is_taken-requires c =
    let a = c.args in
    let P = places_in a.places.now (line_count a.file.now) in
    laid_inside P a.file.now a.table.now a.places.now c.requires.0 a.j c.requires.1

pub size_of-size-requires : goal.size_of-size-requires
size_of-size-requires c =
    let a = c.args in
    let P = places_in a.places.now (line_count a.file.now) in
    laid_inside P a.file.now a.table.now a.places.now c.requires.0 a.j c.requires.1

pub place_of-requires : goal.place_of-requires
place_of-requires c =
    let a = c.args in
    let P = places_in a.places.now (line_count a.file.now) in
    laid_inside P a.file.now a.table.now a.places.now c.requires.0 a.j c.requires.1

pub returns-then-is_taken : goal.returns-then-is_taken
returns-then-is_taken c =
    let a = c.args in
    let P = places_in a.places.now (line_count a.file.now) in
    ap not c.both-even.ensures ∙ uneven_taken P a.file.now a.code a.j _ _ _ c.line_code.ensures.0 c.if-line_code-code.false (sym (laid_taken P a.file.now a.table.now a.places.now c.requires.0 a.j c.requires.1) ∙ sym c.is_taken.ensures ∙ c.if-is_taken.true) (c.place_of.ensures.0 ∙ laid_place P a.file.now a.table.now a.places.now c.requires.0 a.j c.requires.1) (c.size_of-size.ensures.0 ∙ laid_size P a.file.now a.table.now a.places.now c.requires.0 a.j c.requires.1 (sym c.is_taken.ensures ∙ c.if-is_taken.true))

pub returns : goal.returns
returns c =
    let a = c.args in
    let P = places_in a.places.now (line_count a.file.now) in
    uneven_off P a.file.now a.code a.j (sym (laid_taken P a.file.now a.table.now a.places.now c.requires.0 a.j c.requires.1) ∙ sym c.is_taken.ensures ∙ c.if-is_taken.false)
