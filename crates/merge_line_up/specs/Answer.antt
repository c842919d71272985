-- Of the code, not of document 01: what 11 to 13 answer.
use Rattle.std.specs.Prelude.{ℕ, List, ◌≡◌, Result, Ok, Err}
use Rattle.base_fields.specs.declared.ByteOrder.{ByteOrder}
use Rattle.base_answers.specs.declared.Refusal.{Refusal}
use Rattle.base_answers.specs.Verdicts.{Verdict, Passed}
use Rattle.blocks_places.specs.Places.{Place}
use Rattle.merge_missing.specs.of_late_length.declared.LateStep.{LateStep}
use Rattle.merge_line_up.specs.LineUp.{line_up_verdict, late_step_of}

-- the late step, or a refusal
abbrev pub LinedUp : Type 0
LinedUp = Result LateStep Refusal

abbrev pub Lined : LateStep → LinedUp
Lined s = Ok s

unfoldable pub lined_verdict : LinedUp → Verdict
lined_verdict (Ok s) = Passed
lined_verdict (Err r) = Err r

pub record LinesUp (o : ByteOrder) (C A : List ℕ) (P : List Place) (B : List ℕ) (r : LinedUp) : Type 0 where
  pub verdict : lined_verdict r ≡ line_up_verdict o C A P B
  pub step : (s : LateStep) → r ≡ Lined s → s ≡ late_step_of o A P B
