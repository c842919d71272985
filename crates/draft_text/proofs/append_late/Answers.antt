-- Where a block has late lines, the three lines in front of them, the lines and the line behind them are the part; where none has, the part is empty and nothing is
-- written. Assumes nothing.
use Rattle.base_scope.specs.Text.{text}
use Rattle.draft_text.proofs.Late.{line_ends, part_none, part_some}
use native.Mathlib.Omega.{arith}
use mathlib.Core.Path.{sym, ◌∙◌}
use Rattle.draft_text.proofs.append_late.Goals as goal

pub append_line-b-requires : goal.append_line-b-requires
append_line-b-requires c = omega (arith, c.requires.2, line_ends _ _ _ _ _ c.append_line-a.ensures)

pub append_line-c-requires : goal.append_line-c-requires
append_line-c-requires c =
    omega (arith, c.requires.2, line_ends _ _ _ _ _ c.append_line-a.ensures, line_ends _ _ _ _ _ c.append_line-b.ensures)

pub append_late_lines-d-requires : goal.append_late_lines-d-requires
append_late_lines-d-requires c =
    let p = c.requires in (
      p.0,
      p.1,
      omega (arith, p.2, line_ends _ _ _ _ _ c.append_line-a.ensures, line_ends _ _ _ _ _ c.append_line-b.ensures, line_ends _ _ _ _ _ c.append_line-c.ensures),
    )

pub append_line-requires : goal.append_line-requires
append_line-requires c =
    omega (arith, c.requires.2, line_ends _ _ _ _ _ c.append_line-a.ensures, line_ends _ _ _ _ _ c.append_line-b.ensures, line_ends _ _ _ _ _ c.append_line-c.ensures, c.append_late_lines-d.ensures.1)

pub returns-then-is_late : goal.returns-then-is_late
unfolding text
returns-then-is_late c =
    let a = c.args in
    part_some _ a.file.now a.out.now a.at _ _ _ _ _ _ _ _ _ _
    (sym c.is_late.ensures ∙ c.if-is_late.true)
    c.append_line-a.ensures
    c.append_line-b.ensures
    c.append_line-c.ensures
    c.append_late_lines-d.ensures.0
    c.append_line.ensures

pub returns : goal.returns
returns c =
    let a = c.args in
    part_none _ a.file.now a.out.now a.at (sym c.is_late.ensures ∙ c.if-is_late.false)
