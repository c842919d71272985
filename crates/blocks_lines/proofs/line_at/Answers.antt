-- `blocks_lines::line_at` meets its contract: past the end the line is empty, and else the end that `line_end` answers lies between `at` and the file's
-- length, so the part up to it is the line. Assumes nothing.
use Rattle.blocks_lines.specs.Lines.{line}
use Rattle.blocks_lines.proofs.Lines.{line_past, end_low, end_high}
use native.Mathlib.Omega.{arith}
use mathlib.Core.Path.{sym}
use Prim.Native.Nat.{◌-◌}
use lib.ListN.{take, drop}
use Rattle.blocks_lines.proofs.line_at.Goals as goal

pub returns-then-at-file : goal.returns-then-at-file
returns-then-at-file c =
    let a = c.args in
    sym (line_past a.file.now a.at (omega arith))

pub slice_bounds-result-count-2 : goal.slice_bounds-result-count-2
slice_bounds-result-count-2 c =
    let a = c.args in
    omega (arith, end_low a.file.now a.at)

pub slice_bounds-result-start-2 : goal.slice_bounds-result-start-2
slice_bounds-result-start-2 c =
    let a = c.args in
    omega (arith, end_low a.file.now a.at)

pub slice_bounds-result-end-2 : goal.slice_bounds-result-end-2
slice_bounds-result-end-2 c =
    let a = c.args in
    omega (arith, end_high a.file.now a.at (omega arith))

pub returns : goal.returns
unfolding line
returns c =
    let a = c.args in
    λ k. take (c.line_end-e.ensures k - a.at) (drop a.at a.file.now)
