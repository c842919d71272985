-- `blocks_file::skip_lines` meets its contract: a line of the key passed over does not change where the lines of the key end; at the first line that is
-- none, and at the end of the file, that is where the loop stands. Assumes nothing.
use Rattle.blocks_file.proofs.Blocks.{skip_stop, skip_turn, skip_past}
use native.Mathlib.Omega.{arith}
use mathlib.Core.Path.{refl, sym, ◌∙◌}
use Rattle.blocks_file.proofs.skip_lines.Goals as goal

pub loop-p-init : goal.loop-p-init
loop-p-init c = refl

pub returns-then-next-eq0 : goal.returns-then-next-eq0
returns-then-next-eq0 c =
    let a = c.args in
    let l = c.loop-p in
    let n = c.line_after-next in
    sym (l.invariant ∙ skip_stop a.file.now a.k l.p n.result n.ensures c.if-next-eq0.true)

pub loop-p-smaller : goal.loop-p-smaller
loop-p-smaller c =
    let a = c.args in
    let l = c.loop-p in
    let n = c.line_after-next in
    omega (arith, (skip_turn a.file.now a.k l.p n.result n.ensures c.if-next-eq0.false).1)

pub loop-p-preserved : goal.loop-p-preserved
loop-p-preserved c =
    let a = c.args in
    let l = c.loop-p in
    let n = c.line_after-next in
    l.invariant ∙ (skip_turn a.file.now a.k l.p n.result n.ensures c.if-next-eq0.false).0

pub returns : goal.returns
returns c =
    let a = c.args in
    let l = c.loop-p in
    sym (l.invariant ∙ skip_past a.file.now a.k l.p (omega arith))
