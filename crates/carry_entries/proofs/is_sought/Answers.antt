-- By the tests, one behind the other. Assumes nothing.
use mathlib.Core.Path.{refl, sym, ◌∙◌}
use Rattle.base_lists.proofs.Ranges.{both}
use Rattle.carry_entries.proofs.is_sought.Goals as goal

pub returns-then-is_late_target : goal.returns-then-is_late_target
returns-then-is_late_target c = λ e. both e refl

pub returns-then-side : goal.returns-then-side
returns-then-side c = λ e. (c.if-side.true, sym c.is_late_target.ensures ∙ c.if-is_late_target.false)

pub returns : goal.returns
returns c = λ e. both e refl
