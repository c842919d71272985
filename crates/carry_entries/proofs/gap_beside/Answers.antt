-- Whichever is taken, it is a gap, or the one that there was. Assumes nothing.
use mathlib.Core.Path.{refl}
use mathlib.Core.Logic.{inl, inr}
use native.Mathlib.Omega.{arith}
use Rattle.base_lists.proofs.Ranges.{first_high}
use Rattle.blocks_spans.specs.Table.{spans_in, ends_behind}
use Rattle.carry_entries.proofs.gap_beside.Goals as goal

pub gap_before-next-requires : goal.gap_before-next-requires
gap_before-next-requires c = (c.requires, omega (arith, c.if-gap-n.true))

pub returns-then-is_in_gap : goal.returns-then-is_in_gap
returns-then-is_in_gap c = inr c.gap_before-next.ensures

pub returns-then-both : goal.returns-then-both
returns-then-both c = inl refl

pub row_behind-requires : goal.row_behind-requires
row_behind-requires c = c.requires

pub gap_before-requires : goal.gap_before-requires
gap_before-requires c =
    let a = c.args in
    (c.requires, omega (arith, c.row_behind.ensures, first_high (ends_behind (spans_in a.rows.now a.n) a.x) 0 a.n (omega arith)))

pub returns : goal.returns
returns c = inr c.gap_before.ensures
