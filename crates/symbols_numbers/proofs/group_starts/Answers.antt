-- Each start is the one before it and the count of its group. Assumes nothing.
use Prim.Native.Nat.{ℕ, ◌<◌}
use native.Mathlib.Omega.{arith}
use Rattle.symbols_merge.specs.Merged.{RESULT_GROUPS}
use Rattle.symbols_numbers.proofs.Counts.{CountAt, counts_at, starts_are}
use Rattle.symbols_numbers.proofs.group_starts.Goals as goal
use Rattle.symbols_numbers.proofs.group_starts.Goals.{After-count_groups-counts}

abbrev Counted : After-count_groups-counts → ℕ → Type 0
Counted c g = let a = c.args in CountAt a.rows.now a.list.now a.holders.now a.m c.count_groups-counts.result g

counted : (c : After-count_groups-counts) (g : ℕ) → g < RESULT_GROUPS → Counted c g
counted c g h = counts_at _ _ _ _ _ g c.count_groups-counts.ensures h

pub overflow_add-b : goal.overflow_add-b
overflow_add-b c = omega (arith, c.requires.few, counted (goal.at.overflow_add-b c).After-count_groups-counts 0 (omega arith), counted (goal.at.overflow_add-b c).After-count_groups-counts 1 (omega arith))

pub overflow_add-c : goal.overflow_add-c
overflow_add-c c = omega (arith, c.requires.few, counted (goal.at.overflow_add-c c).After-count_groups-counts 0 (omega arith), counted (goal.at.overflow_add-c c).After-count_groups-counts 1 (omega arith), counted (goal.at.overflow_add-c c).After-count_groups-counts 2 (omega arith))

pub overflow_add-d : goal.overflow_add-d
overflow_add-d c = omega (arith, c.requires.few, counted (goal.at.overflow_add-d c).After-count_groups-counts 0 (omega arith), counted (goal.at.overflow_add-d c).After-count_groups-counts 1 (omega arith), counted (goal.at.overflow_add-d c).After-count_groups-counts 2 (omega arith), counted (goal.at.overflow_add-d c).After-count_groups-counts 3 (omega arith))

pub returns : goal.returns
returns c =
    starts_are _ _ _ _ _ _ _ _ (counted (goal.at.returns c).After-count_groups-counts 0 (omega arith)).is
    (omega (arith, (counted (goal.at.returns c).After-count_groups-counts 1 (omega arith)).is)) (omega (arith, (counted (goal.at.returns c).After-count_groups-counts 2 (omega arith)).is)) (omega (arith, (counted (goal.at.returns c).After-count_groups-counts 3 (omega arith)).is))
