-- `base_names::has_zero` meets its contract: `hit` says of the bytes passed over whether the name ends among them. Assumes nothing.
use native.Mathlib.Omega.{arith}
use Prim.Native.Nat.{ℕ, ◌+◌}
use mathlib.Core.Path.{◌≡◌, ap, ◌∙◌}
use lib.Dec.{ltb}
use Rattle.base_lists.specs.Strings.{name_end}
use Rattle.base_names.proofs.Zeros.{zero_none, zero_seen, zero_unseen}
use Rattle.base_names.proofs.has_zero.Goals as goal
use Rattle.base_names.proofs.has_zero.Goals.{then-t-at-eq0, else-t-at-eq0}

pub loop-i-init : goal.loop-i-init
loop-i-init c = zero_none c.args.t.now c.args.at

pub loop-i-preserved : goal.loop-i-preserved
loop-i-preserved c =
    let a = c.args in
    let l = c.loop-i in
    elim c.if-t-at-eq0.branch [
      | then-t-at-eq0 w ↦ w.hit-is ∙ zero_seen a.t.now a.at l.i w.if-t-at-eq0.true
      | else-t-at-eq0 w ↦ w.hit-is ∙ l.invariant ∙ zero_unseen a.t.now a.at l.i (omega arith) w.if-t-at-eq0.false
    ]

pub returns : goal.returns
returns c =
    let a = c.args in
    let l = c.loop-i in
    let e : l.i ≡ a.n = omega arith in
    l.invariant ∙ ap (λ (j : ℕ). ltb (name_end a.t.now a.at) (a.at + j)) e
