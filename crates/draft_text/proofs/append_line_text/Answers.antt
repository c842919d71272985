-- The padding, and behind the last line of a block that stays on its body. Assumes nothing.
use Rattle.base_lists.proofs.Written.{written_then, written_as}
use Rattle.blocks_places.proofs.Walk.{laid_inside}
use Rattle.draft_text.proofs.Text.{line_pad, line_off, line_body}
use Rattle.draft_text.proofs.Places.{pad_read}
use native.Mathlib.Omega.{arith}
use mathlib.Core.Path.{sym, ◌∙◌}
use Rattle.draft_text.proofs.append_line_text.Goals as goal

pub append_pad-next-requires : goal.append_pad-next-requires
append_pad-next-requires c =
    let a = c.args in
    let q = c.requires in
    let r = laid_inside _ a.file.now a.table.now a.places.now q.0 a.j q.1 in
    (r.0, r.1, omega (arith, q.3))

pub is_live-requires : goal.is_live-requires
is_live-requires c =
    let q = c.requires in
    (q.0.parsed, q.0.long, omega (arith, q.1, c.line_block-block.ensures))

pub append_body-requires : goal.append_body-requires
append_body-requires c =
    let q = c.requires in
    (q.0.parsed, omega (arith, q.1, c.line_block-block.ensures), omega (arith, c.append_pad-next.ensures.1, q.3))

pub shape_of-out-then-is_live : goal.shape_of-out-then-is_live
shape_of-out-then-is_live c = c.append_body.ensures.0.long ∙ c.append_pad-next.ensures.0.long

pub returns-then-is_live : goal.returns-then-is_live
returns-then-is_live c =
    let a = c.args in
    let q = c.requires in
    let p = c.append_pad-next.ensures in
    let r = c.append_body.ensures in
    let e = pad_read _ a.file.now a.table.now a.places.now q.0 a.j a.end q.1 q.2 in
    (written_as _ _ _ _ _ _ (line_body _ a.file.now a.j _ e c.line_block-block.result c.line_block-block.ensures (sym c.line_code.ensures.0 ∙ c.if-line_code-eq-LINES.true) (sym c.is_live.ensures ∙ c.if-is_live.true)) (written_then _ _ _ _ _ _ _ _ p.0 r.0), omega (arith, p.1, r.1))

pub shape_of-out-else-is_live : goal.shape_of-out-else-is_live
shape_of-out-else-is_live c = c.append_pad-next.ensures.0.long

pub returns-else-is_live : goal.returns-else-is_live
returns-else-is_live c =
    let a = c.args in
    let q = c.requires in
    let p = c.append_pad-next.ensures in
    let e = pad_read _ a.file.now a.table.now a.places.now q.0 a.j a.end q.1 q.2 in
    (written_as _ _ _ _ _ _ (line_off _ a.file.now a.j _ e c.line_block-block.result c.line_block-block.ensures (sym c.is_live.ensures ∙ c.if-is_live.false)) p.0, omega (arith, p.1))

pub shape_of-out-else-line_code-eq-LINES : goal.shape_of-out-else-line_code-eq-LINES
shape_of-out-else-line_code-eq-LINES c = c.append_pad-next.ensures.0.long

pub returns-else-line_code-eq-LINES : goal.returns-else-line_code-eq-LINES
returns-else-line_code-eq-LINES c =
    let a = c.args in
    let q = c.requires in
    let p = c.append_pad-next.ensures in
    let e = pad_read _ a.file.now a.table.now a.places.now q.0 a.j a.end q.1 q.2 in
    (written_as _ _ _ _ _ _ (line_pad _ a.file.now a.j _ e (λ s. c.if-line_code-eq-LINES.false (c.line_code.ensures.0 ∙ s))) p.0, omega (arith, p.1))
