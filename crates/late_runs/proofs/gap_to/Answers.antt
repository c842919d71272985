-- `late_runs::gap_to` meets its contract: the tests say which case of `gap_to` holds. Assumes nothing.
use Rattle.late_runs.proofs.Words.{gap_zeros, gap_before, gap_kept}
use Rattle.late_runs.proofs.gap_to.Goals as goal

pub returns-then-p-x : goal.returns-then-p-x
returns-then-p-x c =
    let a = c.args in
    let p = c.requires in
    gap_zeros a.shifted a.x a.p c.if-shifted.true c.if-p-x.true

pub returns-then-shifted : goal.returns-then-shifted
returns-then-shifted c =
    let a = c.args in
    let p = c.requires in
    gap_before a.shifted a.x a.p c.if-shifted.true c.if-p-x.false

pub returns : goal.returns
returns c =
    let a = c.args in
    let p = c.requires in
    gap_kept a.shifted a.x a.p c.if-shifted.false
