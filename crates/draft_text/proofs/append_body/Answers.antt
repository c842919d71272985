-- Start labels, `.text`, the lines of the block and its end labels, one behind the other. Assumes nothing.
use lib.Dec.{lit≤}
use Rattle.base_scope.specs.Text.{text}
use Rattle.base_lists.proofs.Written.{written_then, written_as}
use Rattle.blocks_lines.proofs.Keys.{repeats_late}
use Rattle.draft_text.proofs.Text.{body_read, length_dot_text}
use native.Mathlib.Omega.{arith}
use mathlib.Core.Path.{◌∙◌}
use Rattle.draft_text.proofs.append_body.Goals as goal

pub append_labels-started-requires : goal.append_labels-started-requires
append_labels-started-requires c =
    let q = c.requires in
    (q.0, q.1, omega (arith, q.2), lit≤ tt)

pub append_line-text-requires : goal.append_line-text-requires
append_line-text-requires c = omega (arith, c.append_labels-started.ensures.1, c.requires.2)

pub append_block_group-ended-requires : goal.append_block_group-ended-requires
append_block_group-ended-requires c =
    let q = c.requires in
    let l = c.append_labels-started.ensures in
    let t = c.append_line-text.ensures in
    (q.0, q.1, lit≤ tt, repeats_late 8 (lit≤ tt) (lit≤ tt), omega (arith, length_dot_text, t.end, l.1, q.2))

pub append_labels-requires : goal.append_labels-requires
append_labels-requires c =
    let q = c.requires in
    let l = c.append_labels-started.ensures in
    let t = c.append_line-text.ensures in
    let g = c.append_block_group-ended.ensures in
    (q.0, q.1, omega (arith, length_dot_text, g.1, t.end, l.1, q.2), lit≤ tt)

pub shape_of-out : goal.shape_of-out
shape_of-out c = c.append_labels.ensures.0.long ∙ c.append_block_group-ended.ensures.0.long ∙ c.append_line-text.ensures.long ∙ c.append_labels-started.ensures.0.long

pub returns : goal.returns
unfolding text
returns c =
    let a = c.args in
    let l = c.append_labels-started.ensures in
    let t = c.append_line-text.ensures in
    let g = c.append_block_group-ended.ensures in
    let r = c.append_labels.ensures in
    (written_as _ _ _ _ _ _ (body_read a.file.now a.i) (written_then _ _ _ _ _ _ _ _ (written_then _ _ _ _ _ _ _ _ (written_then _ _ _ _ _ _ _ _ l.0 t) g.0) r.0), omega (arith, length_dot_text, l.1, t.end, g.1, r.1))
