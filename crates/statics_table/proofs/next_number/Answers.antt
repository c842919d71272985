-- Where no row is a namesake the count is 1; else the last namesake has one less. Assumes nothing.
use Rattle.statics_table.specs.Table.{static_in}
use Rattle.statics_table.proofs.Statics.{number_first, number_after, namesakes_le}
use native.Mathlib.Omega.{arith}
use Prim.Native.Nat.{ℕ, ◌+◌}
use mathlib.Core.Path.{ap}
use Rattle.statics_table.proofs.next_number.Goals as goal

pub returns-then-past-eq0 : goal.returns-then-past-eq0
returns-then-past-eq0 c =
    let a = c.args in
    let q = c.past_namesake-past in
    (number_first a.file.now a.name.now (static_in a.table.now) a.n q.result c.requires.numbered q.ensures.0 c.if-past-eq0.true, omega arith)

pub read-s-requires : goal.read-s-requires
read-s-requires c = (omega (arith, c.past_namesake-past.ensures.1), omega (arith, c.past_namesake-past.ensures.1))

pub overflow_add-result : goal.overflow_add-result
overflow_add-result c =
    let a = c.args in
    let q = c.past_namesake-past in
    let e = number_after a.file.now a.name.now (static_in a.table.now) a.n q.result c.requires.numbered q.ensures.0 c.read-s.result c.if-past-eq0.false c.read-s.ensures in
    let m = namesakes_le a.file.now a.name.now (static_in a.table.now) a.n in
    record { fits = omega arith }

pub returns : goal.returns
returns c =
    let a = c.args in
    let q = c.past_namesake-past in
    let e = number_after a.file.now a.name.now (static_in a.table.now) a.n q.result c.requires.numbered q.ensures.0 c.read-s.result c.if-past-eq0.false c.read-s.ensures in
    let m = namesakes_le a.file.now a.name.now (static_in a.table.now) a.n in
    (ap (λ (x : ℕ). x + 1) e, omega arith)
