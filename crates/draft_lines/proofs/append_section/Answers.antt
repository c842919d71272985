-- `draft_lines::append_section` meets its contract: each arm of the match appends the line of its row of the table. Assumes nothing.
use Rattle.base_scope.specs.Text.{text}
use Rattle.base_scope.specs.Codes.{code_name, section_codes}
use Rattle.base_text.specs.Lines.{lined}
use Rattle.draft_lines.specs.Lines.{section_line}
use native.Mathlib.Omega.{arith}
use mathlib.Core.Path.{◌≡◌}
use Rattle.draft_lines.proofs.append_section.Goals as goal

pub returns-in-1 : goal.returns-in-1
unfolding section_line lined code_name section_codes text
returns-in-1 c =
    let e : c.args.code ≡ 1 = omega arith in
    rw e c.append.ensures

pub returns-in-2 : goal.returns-in-2
unfolding section_line lined code_name section_codes text
returns-in-2 c =
    let e : c.args.code ≡ 2 = omega arith in
    rw e c.append-in-2.ensures

pub returns-in-3 : goal.returns-in-3
unfolding section_line lined code_name section_codes text
returns-in-3 c =
    let e : c.args.code ≡ 3 = omega arith in
    rw e c.append-in-3.ensures

pub returns-in_default : goal.returns-in_default
unfolding section_line lined code_name section_codes text
returns-in_default c =
    let e : c.args.code ≡ 4 = omega arith in
    rw e c.append-in_default.ensures
