-- A gap in front of a span that is taken is filled, behind a line for its section; else nothing is written. Assumes nothing.
use Rattle.base_lists.proofs.Written.{written_none, written_then, written_as}
use Rattle.draft_lines.proofs.Lines.{section_short}
use Rattle.draft_text.proofs.Text.{pad_none, pad_level, pad_some_read}
use Rattle.blocks_places.specs.Table.{place_in}
use native.Mathlib.Omega.{arith}
use mathlib.Core.Path.{sym, ◌∙◌}
use Rattle.draft_text.proofs.append_pad.Goals as goal

pub append_fill-requires : goal.append_fill-requires
append_fill-requires c = (omega (arith, c.append_section-next.ensures.end, section_short _ c.line_code-code.ensures.2), omega arith)

pub returns-then-place-end : goal.returns-then-place-end
returns-then-place-end c =
    let a = c.args in
    let w = c.append_fill.ensures in
    let v = c.append_section-next.ensures in
    let k = c.line_code-code.ensures in
    let t = sym c.is_taken.ensures ∙ c.if-is_taken.true in
    (written_as _ _ _ _ _ _ (pad_some_read (place_in a.places.now a.j) _ a.end _ _ t k.0 c.place_of-place.ensures.0 c.if-place-end.true) (written_then _ _ _ _ _ _ _ _ v w.0), omega (arith, v.end, w.1, section_short _ k.2))

pub returns-else-place-end : goal.returns-else-place-end
returns-else-place-end c =
    let a = c.args in
    let t = sym c.is_taken.ensures ∙ c.if-is_taken.true in
    (written_as _ _ _ _ _ _ (pad_level (place_in a.places.now a.j) _ a.end t (omega (arith, c.place_of-place.ensures.0))) (written_none _ _), omega arith)

pub returns-else-is_taken : goal.returns-else-is_taken
returns-else-is_taken c =
    let a = c.args in
    (written_as _ _ _ _ _ _ (pad_none (place_in a.places.now a.j) _ a.end (sym c.is_taken.ensures ∙ c.if-is_taken.false)) (written_none _ _), omega arith)
