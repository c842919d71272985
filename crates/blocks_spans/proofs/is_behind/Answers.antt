-- `blocks_spans::is_behind` meets its contract: the span of the row ends at its place and size together. Assumes nothing.
use Rattle.blocks_spans.specs.declared.Span.{Span}
use Rattle.blocks_spans.specs.Spans.{span_end}
use lib.Dec.{ltb}
use mathlib.Core.Path.{ap}
use Rattle.blocks_spans.proofs.is_behind.Goals as goal

pub returns : goal.returns
unfolding span_end
returns c = ap (λ (s : Span). ltb c.args.k (span_end s)) c.span_at-s.ensures.0
