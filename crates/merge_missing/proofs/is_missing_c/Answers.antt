-- `merge_missing::is_missing_c` meets its contract: what is asked by the end of the last span is what is asked by all. Assumes nothing.
use Rattle.blocks_places.specs.Lines.{line_count}
use Rattle.blocks_places.specs.Table.{places_in}
use Rattle.merge_missing.proofs.Ends.{missing_lacking, missing_uneven}
use Rattle.merge_missing.proofs.is_missing_c.Goals as goal

pub is_asked_c-asked-requires : goal.is_asked_c-asked-requires
is_asked_c-asked-requires c = c.requires.0.assembled

pub is_lacking-requires : goal.is_lacking-requires
is_lacking-requires c =
    let p = c.requires in
    (p.0.compiled, p.1.low, p.1.high)

pub returns-then-is_lacking : goal.returns-then-is_lacking
returns-then-is_lacking c =
    let a = c.args in
    let P = places_in a.places.now (line_count a.file.now) in
    missing_lacking P a.file.now c.requires.0.laid.fitting a.end a.late a.code c.requires.1 a.inputs.order a.compiled.now a.assembled.now _ c.is_asked_c-asked.ensures _ c.is_lacking.ensures c.if-is_lacking.true

pub has_uneven-requires : goal.has_uneven-requires
has_uneven-requires c =
    let p = c.requires in
    (p.0.laid, p.0.many)

pub returns : goal.returns
returns c =
    let a = c.args in
    let P = places_in a.places.now (line_count a.file.now) in
    missing_uneven P a.file.now c.requires.0.laid.fitting a.end a.late a.code c.requires.1 a.inputs.order a.compiled.now a.assembled.now _ c.is_asked_c-asked.ensures _ c.is_lacking.ensures c.if-is_lacking.false _ c.has_uneven.ensures
