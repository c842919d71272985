-- `late_runs::word_run` meets its contract: the numbers read are those of the definition, and all are small. Assumes nothing.
use Rattle.late_lookups.proofs.of_blocks_items.DummyLines.{count_few}
use Rattle.late_runs.proofs.Words.{run_in_word, run_before}
use native.Mathlib.Omega.{arith}
use mathlib.Core.Path.{◌∙◌}
use Rattle.late_runs.proofs.word_run.Goals as goal

pub dummy_place-p-requires : goal.dummy_place-p-requires
dummy_place-p-requires c =
    let a = c.args in
    let p = c.requires in
    (p.rising, omega (arith, p.inside, p.rows))

pub field_at-source-requires : goal.field_at-source-requires
field_at-source-requires c =
    let a = c.args in
    let p = c.requires in
    (omega arith, omega (arith, p.rising.row.few), omega (arith, p.rising.row.long))

pub overflow_mul-result : goal.overflow_mul-result
overflow_mul-result c =
    let a = c.args in
    let p = c.requires in
    omega (arith, p.offset, p.small, p.fits, p.past, p.inside, c.dummy_place-p.ensures.0, c.field_at-source.ensures.0, count_few a.file.now a.i p.counted, p.parsed.small, p.dummies)

pub overflow_add-result : goal.overflow_add-result
overflow_add-result c =
    let a = c.args in
    let p = c.requires in
    omega (arith, p.offset, p.small, p.fits, p.past, p.inside, c.dummy_place-p.ensures.0, c.field_at-source.ensures.0, count_few a.file.now a.i p.counted, p.parsed.small, p.dummies)

pub overflow_add-result-then-p-x : goal.overflow_add-result-then-p-x
overflow_add-result-then-p-x c =
    let a = c.args in
    let p = c.requires in
    omega (arith, p.offset, p.small, p.fits, p.past, p.inside, c.dummy_place-p.ensures.0, c.field_at-source.ensures.0, count_few a.file.now a.i p.counted, p.parsed.small, p.dummies)

pub overflow_add-result-then-p-x-2 : goal.overflow_add-result-then-p-x-2
overflow_add-result-then-p-x-2 c =
    let a = c.args in
    let p = c.requires in
    omega (arith, p.offset, p.small, p.fits, p.past, p.inside, c.dummy_place-p.ensures.0, c.field_at-source.ensures.0, count_few a.file.now a.i p.counted, p.parsed.small, p.dummies)

pub overflow_sub-result-then-p-x : goal.overflow_sub-result-then-p-x
overflow_sub-result-then-p-x c =
    let a = c.args in
    let p = c.requires in
    omega (arith, p.offset, p.small, p.fits, p.past, p.inside, c.dummy_place-p.ensures.0, c.field_at-source.ensures.0, count_few a.file.now a.i p.counted, p.parsed.small, p.dummies)

pub returns-then-p-x : goal.returns-then-p-x
returns-then-p-x c =
    let a = c.args in
    let p = c.requires in
    run_in_word a.order a.file.now a.rodata.now a.late.now a.i a.count a.k a.x c.field_at-source.result c.dummy_place-p.result
    c.field_at-source.ensures.0 c.dummy_place-p.ensures.0 c.if-p-x.true

pub field_at-last-requires : goal.field_at-last-requires
field_at-last-requires c =
    let a = c.args in
    let p = c.requires in
    (omega arith, omega (arith, p.rising.row.few), omega (arith, p.rising.row.long))

pub has_moved_on-requires : goal.has_moved_on-requires
has_moved_on-requires c =
    let a = c.args in
    let p = c.requires in
    let d = c.dummy_place-p.ensures.0 in
    let f = c.field_at-last.ensures.0 in
    (p.parsed, p.counted, p.dummies, p.inside, omega (arith, d, p.fits), omega (arith, f, p.behind), p.small)

pub gap_to-requires : goal.gap_to-requires
gap_to-requires c =
    let a = c.args in
    let p = c.requires in
    let d = c.dummy_place-p.ensures.0 in
    (omega arith, omega (arith, d, p.fits, p.small))

pub returns : goal.returns
returns c =
    let a = c.args in
    let p = c.requires in
    c.gap_to.ensures ∙ run_before a.order a.file.now a.rodata.now a.late.now a.i a.count a.k a.x c.field_at-last.result
    c.dummy_place-p.result c.has_moved_on.result c.field_at-last.ensures.0 c.dummy_place-p.ensures.0 c.has_moved_on.ensures c.if-p-x.false
