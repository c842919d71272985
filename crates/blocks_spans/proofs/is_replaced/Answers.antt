-- `blocks_spans::is_replaced` meets its contract: k lies behind the place of the first span that ends behind it, a number of whole words, or under none. Assumes nothing.
use Rattle.blocks_spans.specs.Table.{spans_in}
use Rattle.blocks_spans.proofs.Table.{replaced_clear, replaced_gap, replaced_word_lem}
use mathlib.Core.Path.{sym, ◌∙◌}
use Rattle.blocks_spans.proofs.is_replaced.Goals as goal

pub returns-then-k-s : goal.returns-then-k-s
returns-then-k-s c =
    let a = c.args in
    replaced_gap (spans_in a.rows.now a.n) c.requires.ascends a.k _ (sym c.next_span.ensures ∙ c.in-Some.is) c.if-k-s.true

pub returns-in-None : goal.returns-in-None
returns-in-None c =
    let a = c.args in
    replaced_clear (spans_in a.rows.now a.n) c.requires.ascends a.k (sym c.next_span.ensures ∙ c.in-None.is)

pub returns-else-k-s : goal.returns-else-k-s
returns-else-k-s c =
    let a = c.args in
    replaced_word_lem (spans_in a.rows.now a.n) c.requires.ascends a.k _ (sym c.next_span.ensures ∙ c.in-Some.is) c.if-k-s.false
