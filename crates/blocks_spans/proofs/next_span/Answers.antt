-- `blocks_spans::next_span` meets its contract: the row that is found is that of the first span that ends behind k. Assumes nothing.
use Rattle.std.specs.Prelude.{Some}
use Rattle.blocks_spans.proofs.Table.{row_next, row_none}
use mathlib.Core.Path.{ap, ◌∙◌}
use native.Mathlib.Omega.{arith}
use Rattle.blocks_spans.proofs.next_span.Goals as goal

pub span_at-requires : goal.span_at-requires
span_at-requires c =
    let p = c.requires in
    (omega (arith, p.fits), omega (arith, p.few))

pub returns-then-r-n : goal.returns-then-r-n
returns-then-r-n c =
    let a = c.args in
    ap Some c.span_at.ensures.0 ∙ row_next a.rows.now a.n a.k _ c.first_behind-r.ensures c.if-r-n.true

pub returns : goal.returns
returns c =
    let a = c.args in
    row_none a.rows.now a.n a.k _ c.first_behind-r.ensures c.if-r-n.false
