-- `late_runs::run_at` meets its contract: the row that is found is the one of the definition, or all rows end before x. Assumes nothing.
use Rattle.late_runs.proofs.InHand.{hand_rows}
use Rattle.late_runs.proofs.Words.{read_none, read_row}
use native.Mathlib.Omega.{arith}
use mathlib.Core.Path.{◌∙◌}
use Rattle.late_runs.proofs.run_at.Goals as goal

pub row_past-i-requires : goal.row_past-i-requires
row_past-i-requires c =
    let a = c.args in
    let p = c.requires in
    let y = p.0 in
    (rw p.1 (hand_rows a.order y.places a.file.now a.rodata.now a.table.now a.late.now y.start a.x y.run), omega arith)

pub overflow_sub-result : goal.overflow_sub-result
overflow_sub-result c = omega (arith, c.requires.0.run.inside)

pub returns-then-i-blocks : goal.returns-then-i-blocks
returns-then-i-blocks c =
    let a = c.args in
    let g = c.row_past-i in
    read_none a.order a.file.now a.rodata.now a.late.now a.x a.blocks (omega (arith, g.ensures.0))

pub run_in-requires : goal.run_in-requires
run_in-requires c =
    let a = c.args in
    let p = c.requires in
    let y = p.0 in
    let g = c.row_past-i in
    (y, g.ensures.0 ∙ rw p.1, omega (arith, g.ensures.1, p.1))

pub returns : goal.returns
returns c =
    let a = c.args in
    let g = c.row_past-i in
    c.run_in.ensures ∙ read_row a.order a.file.now a.rodata.now a.late.now a.x a.blocks g.result g.ensures.0 (omega (arith, g.ensures.1))
