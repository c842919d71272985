-- Its place and its size together. Assumes nothing.
use mathlib.Core.Path.{ap}
use Rattle.blocks_spans.specs.Spans.{span_end}
use Rattle.carry_entries.proofs.row_end.Goals as goal

pub returns : goal.returns
unfolding span_end
returns c = ap span_end c.span_at-s.ensures.0
