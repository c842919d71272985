-- The end moves behind a span that is taken, and stays otherwise. Assumes nothing.
use Rattle.blocks_places.proofs.Walk.{laid_size, laid_inside}
use Rattle.draft_text.proofs.Places.{end_read, end_kept}
use native.Mathlib.Omega.{arith}
use mathlib.Core.Path.{sym, ◌∙◌}
use Rattle.draft_text.proofs.end_after.Goals as goal

pub is_taken-requires : goal.is_taken-requires
is_taken-requires c =
    let a = c.args in
    let q = c.requires in
    laid_inside _ a.file.now a.table.now a.places.now q.0 a.j q.1

pub place_of-place-requires : goal.place_of-place-requires
place_of-place-requires c =
    let a = c.args in
    let q = c.requires in
    laid_inside _ a.file.now a.table.now a.places.now q.0 a.j q.1

pub size_of-size-requires : goal.size_of-size-requires
size_of-size-requires c =
    let a = c.args in
    let q = c.requires in
    laid_inside _ a.file.now a.table.now a.places.now q.0 a.j q.1

pub overflow_add-result : goal.overflow_add-result
overflow_add-result c = omega (arith, c.size_of-size.ensures.1, c.place_of-place.ensures.1)

pub returns-then-is_taken : goal.returns-then-is_taken
returns-then-is_taken c =
    let a = c.args in
    let q = c.requires in
    end_read _ a.file.now a.table.now a.places.now q.0 a.j a.end q.1 q.2 _ _ (sym c.is_taken.ensures ∙ c.if-is_taken.true) c.place_of-place.ensures.0
    (c.size_of-size.ensures.0 ∙ laid_size _ a.file.now a.table.now a.places.now q.0 a.j q.1 (sym c.is_taken.ensures ∙ c.if-is_taken.true))

pub returns : goal.returns
returns c =
    let a = c.args in
    let q = c.requires in
    end_kept _ a.file.now a.table.now a.places.now q.0 a.j a.end q.1 q.2 (sym c.is_taken.ensures ∙ c.if-is_taken.false)
