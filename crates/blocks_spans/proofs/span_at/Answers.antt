-- `blocks_spans::span_at` meets its contract: the two words of the row. Assumes nothing.
use Rattle.blocks_spans.specs.Table.{span_in}
use borrow.Author.Rules.{rules}
use native.Mathlib.Omega.{arith}
use Rattle.blocks_spans.proofs.span_at.Goals as goal

pub read32-requires : goal.read32-requires
read32-requires c = omega arith

pub read32-requires-2 : goal.read32-requires-2
read32-requires-2 c = omega arith

pub returns : goal.returns
unfolding span_in
returns c = (λ k. record { place = c.read32.ensures k; size = c.read32-2.ensures k }, search rules, search rules)
