-- `blocks_lines::line_number` meets its contract: n is one more than the number of LFs below i, and at the end i is `at`. Assumes nothing.
use Rattle.base_lists.specs.Ranges.{count}
use Rattle.base_lists.proofs.Ranges.{count_zero, count_yes, count_no, count_le}
use Rattle.blocks_lines.specs.Lines.{feed_at, line_number}
use Rattle.blocks_lines.proofs.Lines.{feed_true, feed_false}
use native.Mathlib.Omega.{arith}
use Prim.Native.Nat.{ℕ, ◌+◌}
use mathlib.Core.Path.{◌≡◌, ap, ◌∙◌}
use Rattle.blocks_lines.proofs.line_number.Goals as goal
use Rattle.blocks_lines.proofs.line_number.Goals.{then-file-i-eq10, else-file-i-eq10}

pub loop-i-init : goal.loop-i-init
loop-i-init c = (omega arith, rw count_zero)

pub overflow_add-n : goal.overflow_add-n
overflow_add-n c =
    let a = c.args in
    let l = c.loop-i in
    omega (arith, count_le (feed_at a.file.now) l.i)

pub loop-i-preserved : goal.loop-i-preserved
loop-i-preserved c =
    let a = c.args in
    let l = c.loop-i in
    elim c.if-file-i-eq10.branch [
      | then-file-i-eq10 w ↦
          let e = count_yes (feed_at a.file.now) l.i (feed_true a.file.now l.i w.if-file-i-eq10.true) in
          (omega arith, omega (arith, e))
      | else-file-i-eq10 w ↦
          let e = count_no (feed_at a.file.now) l.i (feed_false a.file.now l.i w.if-file-i-eq10.false) in
          (omega arith, omega (arith, e))
    ]

pub returns : goal.returns
unfolding line_number
returns c =
    let a = c.args in
    let l = c.loop-i in
    let e : l.i ≡ a.at = omega arith in
    l.invariant.1 ∙ ap (λ (k : ℕ). count (feed_at a.file.now) k + 1) e
