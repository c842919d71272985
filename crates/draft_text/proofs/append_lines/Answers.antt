-- What the first j lines add is written, and the ends of all sections behind them are in hand. Assumes nothing.
use Rattle.base_lists.proofs.Written.{written_none, written_then, written_as}
use Rattle.base_scope.specs.Codes.{LINES}
use Rattle.blocks_file.proofs.Blocks.{count_high}
use Rattle.draft_text.specs.Draft.{lines_text}
use Rattle.draft_text.proofs.Text.{lines_zero, lines_next}
use Rattle.draft_text.proofs.Places.{ends_start, ends_at, ends_next}
use native.Mathlib.Omega.{arith}
use Prim.Native.Nat.{◌*◌}
use mathlib.Core.Path.{◌≡◌, sym, ap}
use Rattle.draft_text.proofs.append_lines.Goals as goal

pub loop-j-init : goal.loop-j-init
loop-j-init c =
    let a = c.args in
    (omega arith, written_as _ _ _ _ _ _ (sym (lines_zero _ a.file.now)) (written_none _ _), omega arith, ends_start _ a.file.now)

pub overflow_mul-j-end : goal.overflow_mul-j-end
overflow_mul-j-end c = omega (arith, count_high c.args.file.now, c.requires.1)

pub bounds-ends-c : goal.bounds-ends-c
bounds-ends-c c = omega (arith, c.line_code-c.ensures.2, c.loop-j.invariant.3.many)

pub append_line_text-next-requires : goal.append_line_text-next-requires
append_line_text-next-requires c =
    let a = c.args in
    let q = c.requires in
    let l = c.loop-j in
    (q.0, omega (arith, q.1), ends_at _ a.file.now l.j _ l.ends l.invariant.3 c.line_code-c.ensures.0, omega (arith, l.invariant.2, q.1, q.2, count_high a.file.now))

pub end_after-requires : goal.end_after-requires
end_after-requires c =
    let a = c.args in
    let q = c.requires in
    let l = c.loop-j in
    (q.0, omega (arith, q.1), ends_at _ a.file.now l.j _ l.ends l.invariant.3 c.line_code-c.ensures.0)

pub bounds-ends-c-in-loop-j : goal.bounds-ends-c-in-loop-j
bounds-ends-c-in-loop-j c = omega (arith, c.line_code-c.ensures.2, c.loop-j.invariant.3.many)

pub loop-j-preserved : goal.loop-j-preserved
loop-j-preserved c =
    let a = c.args in
    let l = c.loop-j in
    let w = c.append_line_text-next.ensures in
    (omega (arith, c.loop-j-test.true), written_as _ _ _ _ _ _ (lines_next _ a.file.now l.j) (written_then _ _ _ _ _ _ _ _ l.invariant.1 w.0), omega (arith, l.invariant.2, w.1), ends_next _ a.file.now l.j _ _ l.ends l.invariant.3 c.line_code-c.ensures.0 c.end_after.ensures)

pub shape_of-out : goal.shape_of-out
shape_of-out c = c.loop-j.invariant.1.long

pub returns : goal.returns
returns c =
    let a = c.args in
    let q = c.requires in
    let l = c.loop-j in
    let e : l.j ≡ LINES * a.count = omega arith in
    (written_as _ _ _ _ _ _ (ap (lines_text _ a.file.now) e) l.invariant.1, omega (arith, l.invariant.2, q.1, count_high a.file.now))
