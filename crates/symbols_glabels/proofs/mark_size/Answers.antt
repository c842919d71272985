-- A block that gives a size gives it to the symbols of its first glabel; another changes nothing. Assumes nothing.
use Rattle.base_scope.specs.Codes.{TEXT, line_of}
use Rattle.blocks_places.specs.Lines.{line_count, span_size}
use Rattle.blocks_places.specs.Table.{places_in}
use Rattle.symbols_glabels.proofs.Words.{sized_span, sized_glabel, size_given, size_none}
use Prim.Native.Nat.{◌+◌}
use mathlib.Core.Path.{sym, ◌∙◌}
use Rattle.symbols_glabels.proofs.mark_size.Goals as goal

pub is_sized-requires : goal.is_sized-requires
is_sized-requires c =
    (c.requires.0.laid.parsed, c.requires.0.laid.long, c.requires.1)

pub first_glabel-name-requires : goal.first_glabel-name-requires
first_glabel-name-requires c =
    let a = c.args in
    (c.requires.0.laid.parsed, c.requires.1, sized_glabel (places_in a.places.now (line_count a.file.now)) a.file.now a.i (sym c.is_sized.ensures ∙ c.if-is_sized.true))

pub size_put-put-requires : goal.size_put-put-requires
size_put-put-requires c =
    let a = c.args in
    let t = sized_span (places_in a.places.now (line_count a.file.now)) a.file.now a.i (sym c.is_sized.ensures ∙ c.if-is_sized.true) in
    (c.requires.0.laid.parsed, c.requires.1, c.requires.0.laid.fitting.labels (line_of a.i TEXT) t)

pub mark_named-requires : goal.mark_named-requires
mark_named-requires c =
    (c.requires.0.symbols, c.requires.0.indexed, c.size_put-put.ensures.1, c.requires.2)

pub returns-then-is_sized : goal.returns-then-is_sized
returns-then-is_sized c =
    let a = c.args in
    let s = c.size_put-put in
    let t = sym c.is_sized.ensures ∙ c.if-is_sized.true in
    size_given (places_in a.places.now (line_count a.file.now)) a.file.now a.i a.order a.assembled.now a.marks.now _ _ s.result t
    c.first_glabel-name.ensures s.ensures.0 c.mark_named.ensures

pub returns-else-is_sized : goal.returns-else-is_sized
returns-else-is_sized c =
    let a = c.args in
    size_none (places_in a.places.now (line_count a.file.now)) a.file.now a.i a.order a.assembled.now a.marks.now (span_size a.file.now (line_of a.i TEXT) + 1) (sym c.is_sized.ensures ∙ c.if-is_sized.false)
