-- `draft_lines::append_space` meets its contract: the word, the digits and an LF, one behind the other, are the line. Assumes nothing.
use Rattle.base_scope.specs.Text.{text}
use Rattle.base_text.specs.Lines.{lined}
use Rattle.draft_lines.specs.Lines.{space_line}
use Rattle.base_lists.proofs.Written.{written_then}
use Rattle.base_text.proofs.Decimals.{decimal_short}
use native.Mathlib.Omega.{arith}
use Rattle.draft_lines.proofs.append_space.Goals as goal

pub append-requires : goal.append-requires
append-requires c =
    let a = c.args in
    let g = c.append_decimal-b in
    omega (arith, decimal_short a.n, g.ensures.end, c.append-a.ensures.end)

pub returns : goal.returns
unfolding space_line lined text
returns c =
    written_then _ _ _ _ _ _ _ _
    (written_then _ _ _ _ _ _ _ _
    c.append-a.ensures
    c.append_decimal-b.ensures)
    c.append.ensures
