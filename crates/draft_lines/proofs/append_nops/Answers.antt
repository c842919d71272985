-- `draft_lines::append_nops` meets its contract: lines that do not fit are counted by their length, and else as many lines are written as there were turns.
-- Assumes nothing.
use Rattle.base_scope.specs.Text.{text}
use Rattle.base_text.specs.Lines.{lined}
use Rattle.draft_lines.specs.Lines.{nop_lines}
use Rattle.base_lists.specs.Written.{Written}
use Rattle.base_lists.proofs.Written.{written_none, written_short, written_then, written_as}
use Rattle.draft_lines.proofs.Lines.{nop_lines_zero, nop_lines_next, length_nop_lines}
use native.Mathlib.Omega.{arith}
use Prim.Native.Nat.{◌+◌, ◌*◌}
use mathlib.Core.Path.{◌≡◌, sym}
use Rattle.draft_lines.proofs.append_nops.Goals as goal

pub returns-then-end-out : goal.returns-then-end-out
returns-then-end-out c =
    let a = c.args in
    written_short a.out.now a.at (nop_lines a.n) (a.at + 4 * a.n) (omega (arith, length_nop_lines a.n)) c.if-end-out.true

pub loop-init : goal.loop-init
loop-init c =
    let a = c.args in
    (omega arith, omega arith, written_as _ _ _ _ _ _ (sym nop_lines_zero) (written_none a.out.now a.at))

pub loop-preserved : goal.loop-preserved
loop-preserved c =
    let a = c.args in
    let l = c.loop in
    let g = c.append_nop-here in
    let w : Written a.out.now a.at (nop_lines (l.counter + 1)) g.result g.new.out =
    written_as _ _ _ _ _ _ (sym (nop_lines_next l.counter)) (written_then a.out.now a.at (nop_lines l.counter) l.here l.out (lined (text "nop")) g.result g.new.out l.invariant.2 g.ensures) in
    (omega arith, omega (arith, w.end, length_nop_lines (l.counter + 1)), w)

pub returns : goal.returns
returns c =
    let a = c.args in
    let l = c.loop in
    let e : l.counter ≡ a.n = omega arith in
    rw e at l.invariant.2
