-- `alike` says of the bytes passed over whether they are equal. Assumes nothing.
use Rattle.base_lists.specs.Strings.{same}
use Rattle.base_names.proofs.Equal.{byte_apart, byte_next}
use native.Mathlib.Omega.{arith}
use Prim.Native.Nat.{ℕ}
use mathlib.Core.Path.{◌≡◌, refl, sym, ap, ◌∙◌}
use lib.ListN.{take, drop}
use Rattle.base_names.proofs.is_same_part.Goals as goal
use Rattle.base_names.proofs.is_same_part.Goals.{then-a-at, else-a-at}

pub loop-i-init : goal.loop-i-init
unfolding same
loop-i-init c = refl

pub loop-i-preserved : goal.loop-i-preserved
loop-i-preserved c =
    let s = c.args in
    let l = c.loop-i in
    elim c.if-a-at.branch [
      | then-a-at w ↦ w.alike-is ∙ sym (byte_apart s.a.now s.b.now s.at l.i w.if-a-at.true)
      | else-a-at w ↦ w.alike-is ∙ l.invariant ∙ byte_next s.a.now s.b.now s.at l.i (omega arith) (omega arith) w.if-a-at.false
    ]

pub returns : goal.returns
returns c =
    let s = c.args in
    let l = c.loop-i in
    let e : l.i ≡ s.n = omega arith in
    l.invariant ∙ ap (λ (j : ℕ). same (take j (drop s.at s.a.now)) (take j (drop s.at s.b.now))) e
