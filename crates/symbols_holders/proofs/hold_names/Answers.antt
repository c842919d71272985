-- After p turns the first p words are the holders of their positions, and what stands behind them is as before. Assumes nothing.
use mathlib.Core.Path.{◌≡◌, refl, ◌∙◌}
use native.Mathlib.Omega.{arith}
use Rattle.symbols_holders.proofs.Holders.{ready_at}
use Rattle.symbols_holders.proofs.Tables.{names_none, names_next}
use Rattle.symbols_holders.proofs.hold_names.Goals as goal

pub loop-p-init : goal.loop-p-init
loop-p-init c = (omega arith, refl, names_none _ _)

pub hold_name-requires : goal.hold_name-requires
hold_name-requires c =
    let l = c.loop-p in
    let q = c.requires in
    (ready_at _ _ _ _ _ _ _ _ _ l.p q.0 q.1 c.loop-p-test.true, omega (arith, q.2, l.invariant.1))

pub loop-p-preserved : goal.loop-p-preserved
loop-p-preserved c =
    let l = c.loop-p in
    let q = c.requires in
    let w = c.hold_name in (
      omega arith,
      w.auto.holders ∙ l.invariant.1,
      names_next _ _ l.holders _ l.p (omega (arith, q.2, l.invariant.1)) w.ensures l.invariant.2,
    )

pub returns : goal.returns
returns c =
    let l = c.loop-p in
    let e : l.p ≡ c.args.m = omega arith in
    rw e at l.invariant.2
