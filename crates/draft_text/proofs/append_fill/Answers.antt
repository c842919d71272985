-- Nops in .text, `.space` elsewhere; either is no longer than the gap, or than 18 bytes. Assumes nothing.
use Rattle.base_lists.proofs.Written.{written_as}
use Rattle.base_text.proofs.Decimals.{decimal_short}
use Rattle.draft_lines.proofs.Lines.{length_nop_lines, length_space}
use Rattle.draft_text.proofs.Text.{fill_nops, fill_space}
use native.Mathlib.Omega.{arith}
use Prim.Native.Nat.{◌/◌}
use Rattle.draft_text.proofs.append_fill.Goals as goal

pub returns-then-code-eq-TEXT : goal.returns-then-code-eq-TEXT
returns-then-code-eq-TEXT c =
    let a = c.args in
    let w = c.append_nops.ensures in
    (written_as _ _ _ _ _ _ (fill_nops a.code a.gap c.if-code-eq-TEXT.true) w, omega (arith, w.end, length_nop_lines (a.gap / 4)))

pub returns : goal.returns
returns c =
    let a = c.args in
    let w = c.append_space.ensures in
    (written_as _ _ _ _ _ _ (fill_space a.code a.gap c.if-code-eq-TEXT.false) w, omega (arith, w.end, length_space a.gap, decimal_short a.gap))
