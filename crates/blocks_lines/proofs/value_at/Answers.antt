-- `blocks_lines::value_at` meets its contract: the line begins with its key, so the key's bytes lie in it, and what stands behind them is the value.
-- Assumes nothing.
use Rattle.blocks_lines.proofs.Keys.{value_fits, value_part}
use native.Mathlib.Omega.{arith}
use Rattle.blocks_lines.proofs.value_at.Goals as goal

pub slice_bounds-result-count : goal.slice_bounds-result-count
slice_bounds-result-count c =
    let a = c.args in
    let l = c.line_at-line in
    let k = c.key_length-n in
    omega (arith, value_fits a.file.now a.k a.at l.result.now k.result l.ensures k.ensures c.requires.1)

pub slice_bounds-result-start : goal.slice_bounds-result-start
slice_bounds-result-start c =
    let a = c.args in
    let l = c.line_at-line in
    let k = c.key_length-n in
    omega (arith, value_fits a.file.now a.k a.at l.result.now k.result l.ensures k.ensures c.requires.1)

pub returns : goal.returns
returns c =
    let a = c.args in
    let l = c.line_at-line in
    let k = c.key_length-n in
    value_part a.file.now a.k a.at l.result.now k.result l.ensures k.ensures
