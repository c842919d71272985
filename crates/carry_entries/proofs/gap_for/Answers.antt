-- The gap itself, or where gaps are sought, one beside it. Assumes nothing.
use mathlib.Core.Path.{refl}
use mathlib.Core.Logic.{inl, inr, ⊎_elim}
use Rattle.carry_entries.proofs.gap_for.Goals as goal

pub returns-then-is_in_gap : goal.returns-then-is_in_gap
returns-then-is_in_gap c = inl refl

pub returns-then-sought : goal.returns-then-sought
returns-then-sought c = ⊎_elim (λ e. inl e) (λ w. inr (c.if-sought.true, w)) c.gap_beside.ensures

pub returns : goal.returns
returns c = inl refl
