-- A search down the rows: no row from k on is a namesake. Assumes nothing.
use Rattle.base_lists.specs.Ranges.{past_last}
use Rattle.base_lists.proofs.Ranges.{past_here, past_next, past_end}
use Rattle.statics_table.specs.Statics.{is_namesake}
use Rattle.statics_table.specs.Table.{static_in}
use native.Mathlib.Omega.{arith}
use Prim.Native.Nat.{ℕ, ◌+◌, ◌-◌}
use mathlib.Core.Path.{◌≡◌, refl, sym, ap, ◌∙◌}
use mathlib.Core.Bool.{Bool}
use Rattle.statics_table.proofs.past_namesake.Goals as goal

pub loop-k-init : goal.loop-k-init
loop-k-init c = refl

pub returns-then-is_namesake : goal.returns-then-is_namesake
returns-then-is_namesake c =
    let a = c.args in
    let p : ℕ → Bool = λ j. is_namesake a.file.now a.name.now (static_in a.table.now j) in
    let l = c.loop-k in
    let e : l.k - 1 + 1 ≡ l.k = omega arith in
    (e ∙ sym (l.invariant ∙ past_here p l.k (omega arith) (sym c.is_namesake.ensures ∙ c.if-is_namesake.true)), omega arith)

pub loop-k-preserved : goal.loop-k-preserved
loop-k-preserved c =
    let a = c.args in
    let p : ℕ → Bool = λ j. is_namesake a.file.now a.name.now (static_in a.table.now j) in
    let l = c.loop-k in
    l.invariant ∙ past_next p l.k (omega arith) (sym c.is_namesake.ensures ∙ c.if-is_namesake.false)

pub returns : goal.returns
returns c =
    let a = c.args in
    let p : ℕ → Bool = λ j. is_namesake a.file.now a.name.now (static_in a.table.now j) in
    let l = c.loop-k in
    let e : l.k ≡ 0 = omega arith in
    (sym (l.invariant ∙ ap (past_last p) e ∙ past_end p), omega arith)
