-- The front is compared with as many bytes of the part, the back with those behind them. Assumes nothing.
use native.Mathlib.Omega.{arith}
use Prim.Native.Nat.{ℕ, ◌-◌, ◌≤◌}
use mathlib.Core.Path.{◌≡◌, sym, ap, ◌∙◌}
use mathlib.Core.List.{List}
use mathlib.Core.Bool.{true}
use lib.ListN.{length, take, drop, length-drop}
use native.Mathlib.Nat.{sub-zero}
use lib.Seq.{take_all}
use Rattle.base_lists.specs.Strings.{same}
use Rattle.base_names.proofs.Equal.{joined_not, joined_behind}
use Rattle.base_names.proofs.is_joined.Goals as goal

pub returns-then-same_bytes : goal.returns-then-same_bytes
returns-then-same_bytes c =
    let a = c.args in
    let n = length a.front.now in
    let d : same (take n a.part.now) a.front.now ≡ true =
    ap (λ (k : ℕ). same (take k a.part.now) a.front.now) (sym (sub-zero n)) ∙ sym c.same_bytes.ensures ∙ c.if-same_bytes.true in
    let u : length (drop n a.part.now) ≤ length a.part.now - n = omega (arith, length-drop n a.part.now) in
    c.same_bytes-then-same_bytes.ensures
    ∙ ap (λ (l : List ℕ). same l a.back.now) (take_all (length a.part.now - n) (drop n a.part.now) u)
    ∙ joined_behind a.part.now a.front.now a.back.now d

pub returns : goal.returns
returns c =
    let a = c.args in
    let n = length a.front.now in
    sym
    (joined_not a.part.now a.front.now a.back.now
    (ap (λ (k : ℕ). same (take k a.part.now) a.front.now) (sym (sub-zero n)) ∙ sym c.same_bytes.ensures ∙ c.if-same_bytes.false))
