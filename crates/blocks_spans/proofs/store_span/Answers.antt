-- `blocks_spans::store_span` meets its contract: a line of another code, or one that is not taken, has no span of the code. Assumes nothing.
use Rattle.blocks_places.specs.Lines.{line_count}
use Rattle.blocks_places.specs.Places.{taken}
use Rattle.blocks_places.specs.Table.{places_in}
use Rattle.blocks_places.proofs.Walk.{laid_taken, laid_place, laid_size, laid_inside}
use Rattle.blocks_spans.specs.Spans.{is_span, span_of}
use Rattle.blocks_spans.proofs.Spans.{span_is, span_not, span_off, rows_before}
use Rattle.blocks_spans.proofs.Table.{stored_yes, stored_no}
use Rattle.base_scope.specs.Codes.{line_code}
use mathlib.Core.Path.{◌≡◌, refl, sym, ◌∙◌}
use mathlib.Core.Bool.{true}
use native.Mathlib.Omega.{arith}
use Rattle.blocks_spans.proofs.store_span.Goals as goal

pub returns-then-line_code-code : goal.returns-then-line_code-code
returns-then-line_code-code c =
    let a = c.args in
    let P = places_in a.places.now (line_count a.file.now) in
    stored_no P a.file.now a.code a.j a.r a.rows.now (span_not P a.file.now a.code a.j (λ e. c.if-line_code-code.true (c.line_code.ensures.0 ∙ e))) c.requires.2

pub is_taken-requires : goal.is_taken-requires
is_taken-requires c =
    let a = c.args in
    let P = places_in a.places.now (line_count a.file.now) in
    laid_inside P a.file.now a.table.now a.places.now c.requires.0 a.j c.requires.1

pub size_of-size-requires : goal.size_of-size-requires
size_of-size-requires c =
    let a = c.args in
    let P = places_in a.places.now (line_count a.file.now) in
    laid_inside P a.file.now a.table.now a.places.now c.requires.0 a.j c.requires.1

pub place_of-place-requires : goal.place_of-place-requires
place_of-place-requires c =
    let a = c.args in
    let P = places_in a.places.now (line_count a.file.now) in
    laid_inside P a.file.now a.table.now a.places.now c.requires.0 a.j c.requires.1

pub overflow_mul-r : goal.overflow_mul-r
overflow_mul-r c =
    let a = c.args in
    let P = places_in a.places.now (line_count a.file.now) in
    let t : taken P a.j ≡ true = sym (laid_taken P a.file.now a.table.now a.places.now c.requires.0 a.j c.requires.1) ∙ sym c.is_taken.ensures ∙ c.if-is_taken.true in
    let e : line_code a.j ≡ a.code = sym c.line_code.ensures.0 ∙ c.if-line_code-code.false in
    let s : is_span P a.file.now a.code a.j ≡ true = span_is P a.file.now a.code a.j t e in
    omega (arith, rows_before P a.file.now a.code a.j s c.requires.1, c.requires.2)

pub write_words-requires : goal.write_words-requires
write_words-requires c =
    let a = c.args in
    let P = places_in a.places.now (line_count a.file.now) in
    let t : taken P a.j ≡ true = sym (laid_taken P a.file.now a.table.now a.places.now c.requires.0 a.j c.requires.1) ∙ sym c.is_taken.ensures ∙ c.if-is_taken.true in
    let e : line_code a.j ≡ a.code = sym c.line_code.ensures.0 ∙ c.if-line_code-code.false in
    let s : is_span P a.file.now a.code a.j ≡ true = span_is P a.file.now a.code a.j t e in
    omega (arith, rows_before P a.file.now a.code a.j s c.requires.1, c.requires.2)

pub overflow_add-result : goal.overflow_add-result
overflow_add-result c =
    let a = c.args in
    let P = places_in a.places.now (line_count a.file.now) in
    let t : taken P a.j ≡ true = sym (laid_taken P a.file.now a.table.now a.places.now c.requires.0 a.j c.requires.1) ∙ sym c.is_taken.ensures ∙ c.if-is_taken.true in
    let e : line_code a.j ≡ a.code = sym c.line_code.ensures.0 ∙ c.if-line_code-code.false in
    let s : is_span P a.file.now a.code a.j ≡ true = span_is P a.file.now a.code a.j t e in
    omega (arith, rows_before P a.file.now a.code a.j s c.requires.1, c.requires.2)

pub returns-then-is_taken : goal.returns-then-is_taken
unfolding span_of
returns-then-is_taken c =
    let a = c.args in
    let P = places_in a.places.now (line_count a.file.now) in
    let t : taken P a.j ≡ true = sym (laid_taken P a.file.now a.table.now a.places.now c.requires.0 a.j c.requires.1) ∙ sym c.is_taken.ensures ∙ c.if-is_taken.true in
    let e : line_code a.j ≡ a.code = sym c.line_code.ensures.0 ∙ c.if-line_code-code.false in
    let s : is_span P a.file.now a.code a.j ≡ true = span_is P a.file.now a.code a.j t e in
    stored_yes P a.file.now a.code a.j a.r _ a.rows.now _ _ _ s c.requires.2 refl
    (c.place_of-place.ensures.0 ∙ laid_place P a.file.now a.table.now a.places.now c.requires.0 a.j c.requires.1) (c.size_of-size.ensures.0 ∙ laid_size P a.file.now a.table.now a.places.now c.requires.0 a.j c.requires.1 (sym c.is_taken.ensures ∙ c.if-is_taken.true)) c.write_words.ensures

pub returns : goal.returns
returns c =
    let a = c.args in
    let P = places_in a.places.now (line_count a.file.now) in
    let f = sym (laid_taken P a.file.now a.table.now a.places.now c.requires.0 a.j c.requires.1) ∙ sym c.is_taken.ensures ∙ c.if-is_taken.false in
    stored_no P a.file.now a.code a.j a.r a.rows.now (span_off P a.file.now a.code a.j f) c.requires.2
