-- `blocks_spans::end_behind` meets its contract: a line that is taken moves the end of its code, any other leaves it. Assumes nothing.
use Rattle.base_scope.specs.Codes.{line_code}
use Rattle.blocks_places.specs.Lines.{line_count}
use Rattle.blocks_places.specs.Places.{place}
use Rattle.blocks_places.specs.Table.{places_in}
use Rattle.blocks_places.proofs.Places.{end_moved, end_off}
use Rattle.blocks_places.proofs.Walk.{laid_taken, laid_place, laid_size, laid_inside}
use Prim.Native.Nat.{ℕ, ◌+◌}
use mathlib.Core.Path.{sym, ap, ◌∙◌}
use Rattle.blocks_spans.proofs.end_behind.Goals as goal

pub is_taken-requires : goal.is_taken-requires
is_taken-requires c =
    let a = c.args in
    let P = places_in a.places.now (line_count a.file.now) in
    laid_inside P a.file.now a.table.now a.places.now c.requires.0 a.j c.requires.1

pub size_of-size-requires : goal.size_of-size-requires
size_of-size-requires c =
    let a = c.args in
    let P = places_in a.places.now (line_count a.file.now) in
    laid_inside P a.file.now a.table.now a.places.now c.requires.0 a.j c.requires.1

pub place_of-requires : goal.place_of-requires
place_of-requires c =
    let a = c.args in
    let P = places_in a.places.now (line_count a.file.now) in
    laid_inside P a.file.now a.table.now a.places.now c.requires.0 a.j c.requires.1

pub returns-then-is_taken : goal.returns-then-is_taken
returns-then-is_taken c =
    let a = c.args in
    let P = places_in a.places.now (line_count a.file.now) in
    ap (λ (x : ℕ). x + c.size_of-size.result) (c.place_of.ensures.0 ∙ laid_place P a.file.now a.table.now a.places.now c.requires.0 a.j c.requires.1) ∙ ap (λ (x : ℕ). place P a.j + x) (c.size_of-size.ensures.0 ∙ laid_size P a.file.now a.table.now a.places.now c.requires.0 a.j c.requires.1 (sym c.is_taken.ensures ∙ c.if-is_taken.true)) ∙ sym (end_moved P a.file.now a.j (sym (laid_taken P a.file.now a.table.now a.places.now c.requires.0 a.j c.requires.1) ∙ sym c.is_taken.ensures ∙ c.if-is_taken.true))

pub returns : goal.returns
returns c =
    let a = c.args in
    let P = places_in a.places.now (line_count a.file.now) in
    c.requires.2 ∙ sym (end_off P a.file.now a.j (line_code a.j) (sym (laid_taken P a.file.now a.table.now a.places.now c.requires.0 a.j c.requires.1) ∙ sym c.is_taken.ensures ∙ c.if-is_taken.false))
