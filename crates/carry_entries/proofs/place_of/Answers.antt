-- The place in the row, where there is one. Assumes nothing.
use mathlib.Core.Path.{ap}
use native.Mathlib.Omega.{arith}
use lib.Dec.{ltb}
use borrow.Author.Tests.{lt-ltb, le-ltb}
use Rattle.blocks_spans.specs.declared.Span.{Span}
use Rattle.carry_entries.proofs.Goals.{there, not_there}
use Rattle.carry_entries.proofs.place_of.Goals as goal

pub span_at-s-requires : goal.span_at-s-requires
span_at-s-requires c =
    let p = c.requires in
    (omega (arith, p.fits), omega (arith, p.few))

pub returns-then-r-n : goal.returns-then-r-n
returns-then-r-n c =
    let a = c.args in
    there (ltb a.r a.n) _ _ _ (lt-ltb _ _ c.if-r-n.true) (ap (λ (s : Span). s.place) c.span_at-s.ensures.0)

pub returns : goal.returns
returns c =
    let a = c.args in
    not_there (ltb a.r a.n) _ _ (le-ltb _ _ c.if-r-n.false)
