-- What the call gives back is merge_call's; that it keeps every reference is the theorem of demand_three, since slices are bytes. Assumes nothing.
use native.Mathlib.Omega.{arith}
use Rattle.daphulle.proofs.Keeps.{keeps}
use Rattle.daphulle.proofs.merge.Goals as goal

pub returns : goal.returns
returns c =
    let w = c.merge.ensures in
    (w, keeps _ _ _ _ _ _ _ _ _ _ _ (λ i. omega (arith, c.type_inv.compiled i)) (λ i. omega (arith, c.type_inv.assembled i)) _ _ w.outcome w.output)
