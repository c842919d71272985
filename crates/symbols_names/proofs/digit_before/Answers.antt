-- A turn takes the last digit off, and one fewer is left to take off. Assumes nothing.
use Rattle.symbols_names.specs.Names.{without_last}
use Rattle.symbols_names.proofs.Tails.{without_next, without_none}
use native.Mathlib.Omega.{arith}
use Prim.Native.Nat.{ℕ, ◌+◌, ◌-◌, ◌/◌, ◌%◌}
use mathlib.Core.Path.{◌≡◌, sym, ap, ◌∙◌}
use Rattle.symbols_names.proofs.digit_before.Goals as goal

pub loop-init : goal.loop-init
loop-init c =
    let a = c.args in
    let e : a.low - 0 ≡ a.low = omega arith in
    sym (ap (λ (k : ℕ). without_last k a.number) e)

pub loop-preserved : goal.loop-preserved
loop-preserved c =
    let a = c.args in
    let l = c.loop in
    let e : a.low - l.counter - 1 ≡ a.low - (l.counter + 1) = omega arith in
    l.invariant ∙ without_next (a.low - l.counter) l.n (omega arith) ∙ ap (λ (k : ℕ). without_last k (l.n / 10)) e

pub returns : goal.returns
returns c =
    let a = c.args in
    let l = c.loop in
    ap (λ (x : ℕ). 48 + x % 10) (sym (l.invariant ∙ without_none (a.low - l.counter) l.n (omega arith)))
