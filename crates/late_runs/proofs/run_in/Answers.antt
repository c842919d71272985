-- `late_runs::run_in` meets its contract: the dummy that is found is the one of the definition, or all are passed. Assumes nothing.
use Rattle.late_runs.proofs.InHand.{hand_rows, hand_block, hand_dummies, hand_rising, hand_word, hand_inside, hand_rest}
use Rattle.late_runs.proofs.Words.{row_word, row_table_lem}
use native.Mathlib.Omega.{arith}
use Prim.Native.Nat.{◌≤◌, ◌<◌}
use mathlib.Core.Path.{sym, ◌∙◌}
use Rattle.late_lookups.specs.of_blocks_items.Items.{dummy_count}
use Rattle.late_runs.proofs.run_in.Goals as goal

pub row_dummies-count-requires : goal.row_dummies-count-requires
row_dummies-count-requires c =
    let a = c.args in
    let p = c.requires in
    let y = p.0 in
    (hand_rows a.order y.places a.file.now a.rodata.now a.table.now a.late.now y.start a.x y.run).rows a.i p.2

pub dummy_over-k-requires : goal.dummy_over-k-requires
dummy_over-k-requires c =
    let a = c.args in
    let p = c.requires in
    let y = p.0 in
    let e = sym (hand_block a.order y.places a.file.now a.rodata.now a.table.now a.late.now y.start a.x y.run) ∙ sym p.1 in
    (hand_rising a.order y.places a.file.now a.rodata.now a.table.now a.late.now y.start a.x y.run a.i e p.2, c.row_dummies-count.ensures)

pub word_run-requires : goal.word_run-requires
word_run-requires c =
    let a = c.args in
    let p = c.requires in
    let y = p.0 in
    let e = sym (hand_block a.order y.places a.file.now a.rodata.now a.table.now a.late.now y.start a.x y.run) ∙ sym p.1 in
    let n = c.row_dummies-count in
    let k = c.dummy_over-k in
    let l : k.result < dummy_count a.file.now a.i = omega (arith, n.ensures, hand_dummies a.order y.places a.file.now a.rodata.now a.table.now a.late.now y.start a.x y.run a.i e p.2) in
    hand_word a.order y.places a.file.now a.rodata.now a.table.now a.late.now y.start a.x y.run a.i e p.2 k.result k.ensures.0 l n.result n.ensures

pub returns-then-k-count : goal.returns-then-k-count
returns-then-k-count c =
    let a = c.args in
    let n = c.row_dummies-count in
    let k = c.dummy_over-k in
    c.word_run.ensures ∙ row_word a.order a.file.now a.rodata.now a.late.now a.x a.i n.result k.result n.ensures k.ensures.0 c.if-k-count.true

pub table_run-requires : goal.table_run-requires
table_run-requires c =
    let a = c.args in
    let p = c.requires in
    let y = p.0 in
    let e = sym (hand_block a.order y.places a.file.now a.rodata.now a.table.now a.late.now y.start a.x y.run) ∙ sym p.1 in
    let n = c.row_dummies-count in
    let k = c.dummy_over-k in
    let l : dummy_count a.file.now a.i ≤ k.result = omega (arith, n.ensures, hand_dummies a.order y.places a.file.now a.rodata.now a.table.now a.late.now y.start a.x y.run a.i e p.2) in (
      (hand_rows a.order y.places a.file.now a.rodata.now a.table.now a.late.now y.start a.x y.run).rows a.i p.2,
      hand_inside a.order y.places a.file.now a.rodata.now a.table.now a.late.now y.start a.x y.run a.i e p.2 k.result k.ensures.0 l,
      hand_rest a.order y.places a.file.now a.rodata.now a.table.now a.late.now y.start a.x y.run a.i e p.2 k.result k.ensures.0 l,
    )

pub returns : goal.returns
returns c =
    let a = c.args in
    let n = c.row_dummies-count in
    let k = c.dummy_over-k in
    c.table_run.ensures ∙ row_table_lem a.order a.file.now a.rodata.now a.late.now a.x a.i n.result k.result n.ensures k.ensures.0 c.if-k-count.false
