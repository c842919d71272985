-- `base_names::name_at` meets its contract: past the table's end the name is empty, and else the end that `end_of` answers lies between `at` and the
-- table's length, so the part up to it is the name. Assumes nothing.
use native.Mathlib.Omega.{arith}
use mathlib.Core.Path.{sym}
use Prim.Native.Nat.{◌-◌}
use lib.ListN.{take, drop}
use Rattle.base_lists.specs.Strings.{name_at}
use Rattle.base_lists.proofs.Strings.{name_past, end_low, end_high}
use Rattle.base_names.proofs.name_at.Goals as goal

pub returns-then-at-t : goal.returns-then-at-t
returns-then-at-t c =
    let a = c.args in
    sym (name_past a.t.now a.at (omega arith))

pub slice_bounds-result-count-2 : goal.slice_bounds-result-count-2
slice_bounds-result-count-2 c =
    let a = c.args in
    omega (arith, end_low a.t.now a.at)

pub slice_bounds-result-start-2 : goal.slice_bounds-result-start-2
slice_bounds-result-start-2 c =
    let a = c.args in
    omega (arith, end_low a.t.now a.at)

pub slice_bounds-result-end-2 : goal.slice_bounds-result-end-2
slice_bounds-result-end-2 c =
    let a = c.args in
    omega (arith, end_high a.t.now a.at (omega arith))

pub returns : goal.returns
unfolding name_at
returns c =
    let a = c.args in
    λ k. take (c.end_of-e.ensures k - a.at) (drop a.at a.t.now)
