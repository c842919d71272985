-- The prelude's line, the lines of all blocks, and the late part. Assumes nothing.
use Rattle.base_lists.proofs.Written.{written_then, written_as}
use Rattle.base_text.proofs.Lines.{length_lined}
use Rattle.draft_text.proofs.Text.{draft_read}
use native.Mathlib.Omega.{arith}
use mathlib.Core.Path.{◌∙◌}
use Rattle.draft_text.proofs.append_draft.Goals as goal

pub append_lines-b-requires : goal.append_lines-b-requires
append_lines-b-requires c =
    let q = c.requires in
    (q.0, q.1, omega (arith, c.append_line-a.ensures.end, length_lined c.args.prelude.now, q.2))

pub append_late-requires : goal.append_late-requires
append_late-requires c =
    let q = c.requires in
    (q.0, q.1, omega (arith, c.append_lines-b.ensures.1, c.append_line-a.ensures.end, length_lined c.args.prelude.now, q.2))

pub shape_of-out : goal.shape_of-out
shape_of-out c = c.append_late.ensures.long ∙ c.append_lines-b.ensures.0.long ∙ c.append_line-a.ensures.long

pub returns : goal.returns
returns c =
    let a = c.args in
    written_as _ _ _ _ _ _ (draft_read _ a.file.now a.prelude.now a.count c.requires.1) (written_then _ _ _ _ _ _ _ _ (written_then _ _ _ _ _ _ _ _ c.append_line-a.ensures c.append_lines-b.ensures.0) c.append_late.ensures)
