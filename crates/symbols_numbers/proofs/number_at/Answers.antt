-- The test says whose number it is. Assumes nothing.
use Rattle.symbols_numbers.proofs.Leaves.{number_held, number_else}
use mathlib.Core.Path.{◌≡◌, ap, ◌∙◌}
use native.Mathlib.Omega.{arith}
use Rattle.symbols_rows.specs.Rows.{half_in}
use Rattle.symbols_numbers.proofs.number_at.Goals as goal

pub returns-then-holder-p : goal.returns-then-holder-p
returns-then-holder-p c =
    let a = c.args in (
      number_held a.list.now a.holders.now a.p a.place a.numbers.now _ _ c.half_at-holder.ensures.0 c.if-holder-p.true c.entry_of.ensures,
      omega (arith, c.entry_of.ensures, c.requires.1),
    )

pub half_at-requires-2 : goal.half_at-requires-2
half_at-requires-2 c =
    let e : c.half_at.result ≡ half_in c.args.list.now (half_in c.args.holders.now c.args.p) =
    c.half_at.ensures.0 ∙ ap (half_in c.args.list.now) c.half_at-holder.ensures.0 in
    omega (arith, e, c.requires)

pub returns : goal.returns
returns c =
    let a = c.args in (
      number_else a.list.now a.holders.now a.p a.place a.numbers.now _ _ _ c.half_at-holder.ensures.0 c.if-holder-p.false
          c.half_at.ensures.0 c.half_at-2.ensures.0,
      c.half_at-2.ensures.1,
    )
