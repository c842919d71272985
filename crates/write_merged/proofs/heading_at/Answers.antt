-- A section that stays, or the one that is so many behind them. Assumes nothing.
use Rattle.write_merged.proofs.Merged.{spans_same, total_is}
use Rattle.write_planned.specs.Held.{held_plan}
use native.Mathlib.Omega.{arith}
use Prim.Native.Nat.{ℕ, ◌+◌, ◌-◌}
use mathlib.Core.Path.{◌≡◌, ap, ◌∙◌}
use Rattle.write_merged.proofs.heading_at.Goals as goal

pub kept_heading-requires : goal.kept_heading-requires
kept_heading-requires c = (c.requires.0.held, c.if-i-carry.true)

pub returns-then-i-carry : goal.returns-then-i-carry
returns-then-i-carry c =
    let a = c.args in
    (c.kept_heading.ensures, spans_same a.index.now)

pub new_heading-requires : goal.new_heading-requires
new_heading-requires c =
    let a = c.args in
    let p = c.requires in
    (p.0, omega (arith, p.1, c.if-i-carry.false, total_is a.compiled.now a.assembled.now a.file.now a.path.now a.x a.table.now a.places.now a.steps.now a.index.now p.0))

pub returns : goal.returns
returns c =
    let a = c.args in
    let e : a.x.carry.stay + (a.i - a.x.carry.stay) ≡ a.i = omega (arith, c.if-i-carry.false) in
    (c.new_heading.ensures.0 ∙ ap (λ (k : ℕ). (held_plan a.compiled.now a.assembled.now a.file.now a.path.now a.x a.places.now).heading k) e, c.new_heading.ensures.1)
