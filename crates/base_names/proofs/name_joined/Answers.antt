-- Each test that fails tells the name from the front and the back; where none does, the part is the name. Assumes nothing.
use native.Mathlib.Omega.{arith}
use Prim.Native.Nat.{ℕ, ◌+◌, ◌-◌}
use mathlib.Core.Path.{◌≡◌, sym, ap, ◌∙◌}
use mathlib.Core.List.{◌++◌}
use mathlib.Core.Bool.{not, ◌&&◌}
use lib.ListN.{length, take, drop, length-append}
use lib.Dec.{eqb}
use Rattle.base_lists.specs.Strings.{same, zero_at, name_end}
use Rattle.base_names.proofs.Parts.{past_is, short_not, part_longer, whole_is, on_not, on_zero}
use Rattle.base_names.proofs.name_joined.Goals as goal

pub returns-then-at-t : goal.returns-then-at-t
returns-then-at-t c =
    let a = c.args in
    let s = a.front.now ++ a.back.now in
    ap (λ (n : ℕ). eqb n 0) (sym (length-append a.front.now a.back.now)) ∙ past_is a.t.now s a.at (omega arith)

pub returns-then-t-at : goal.returns-then-t-at
returns-then-t-at c =
    let a = c.args in
    let s = a.front.now ++ a.back.now in
    sym (short_not a.t.now s a.at (omega arith) (omega (arith, c.if-t-at.true, length-append a.front.now a.back.now)))

pub returns-then-goes_on : goal.returns-then-goes_on
returns-then-goes_on c =
    let a = c.args in
    let s = a.front.now ++ a.back.now in
    let n : length s ≡ length a.front.now + length a.back.now = length-append a.front.now a.back.now in
    sym
    (part_longer a.t.now s a.at (omega (arith, n))
    (on_not a.t.now (a.at + length s) (ap (λ (k : ℕ). not (zero_at a.t.now (a.at + k))) n ∙ sym c.goes_on.ensures ∙ c.if-goes_on.true)))

pub returns : goal.returns
returns c =
    let a = c.args in
    let s = a.front.now ++ a.back.now in
    let n = length a.front.now + length a.back.now in
    let e : a.at + n - a.at ≡ n = omega arith in
    c.is_whole.ensures
    ∙ ap (λ (k : ℕ). same (take k (drop a.at a.t.now)) s && eqb (name_end (take k (drop a.at a.t.now)) 0) (length (take k (drop a.at a.t.now)))) e
    ∙ whole_is a.t.now s a.at n (sym (length-append a.front.now a.back.now)) (omega arith)
    (on_zero a.t.now (a.at + n) (sym c.goes_on.ensures ∙ c.if-goes_on.false))
