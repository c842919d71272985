-- A line with a label adds its section and the label with its suffix; one without adds nothing. Assumes nothing.
use Rattle.base_lists.proofs.Written.{written_none, written_then, written_as}
use Rattle.draft_lines.proofs.Lines.{length_label, section_short}
use Rattle.draft_text.proofs.Text.{label_none, label_some_read, span_label_short}
use native.Mathlib.Omega.{arith}
use mathlib.Core.Path.{sym, ap, ◌∙◌}
use lib.ListN.{length}
use Rattle.draft_text.proofs.append_label_text.Goals as goal

pub append_label-requires : goal.append_label-requires
append_label-requires c =
    let a = c.args in
    let l = ap length c.span_label-label.ensures in
    let k = c.line_code.ensures in
    omega (arith, c.append_section-next.ensures.end, section_short _ k.2, l, span_label_short a.file.now a.j, c.requires.0.small)

pub returns-then-is_labelled : goal.returns-then-is_labelled
returns-then-is_labelled c =
    let a = c.args in
    let w = c.append_label.ensures in
    let v = c.append_section-next.ensures in
    let k = c.line_code.ensures in
    let s = c.span_label-label in
    let t = sym c.is_labelled.ensures ∙ c.if-is_labelled.true in
    (written_as _ _ _ _ _ _ (label_some_read a.file.now a.suffix.now a.j _ _ t k.0 s.ensures) (written_then _ _ _ _ _ _ _ _ v w), omega (arith, v.end, w.end, length_label s.result.now a.suffix.now, ap length s.ensures, section_short _ k.2, span_label_short a.file.now a.j, c.requires.0.small))

pub returns : goal.returns
returns c =
    let a = c.args in
    (written_as _ _ _ _ _ _ (label_none a.file.now a.suffix.now a.j (sym c.is_labelled.ensures ∙ c.if-is_labelled.false)) (written_none _ _), omega arith)
