-- What was answered, with the rest of the output and the working buffers zeroed, is what a draft call leaves. Assumes nothing.
use Prim.Native.Nat.{ℕ}
use mathlib.Core.Path.{◌≡◌, ◌∙◌}
use mathlib.Core.List.{List}
use lib.ListN.{length}
use Rattle.base_buffers.specs.Buffers.{zeros, zeroed_from}
use Rattle.base_answers.specs.declared.Outcome.{Outcome}
use Rattle.base_answers.specs.Answers.{Answer}
use Rattle.base_answers.specs.Answered.{Answered}
use Rattle.base_answers.proofs.Answered.{answered_output}
use Rattle.draft_call.specs.Drafted.{Drafted}

pub drafted : (a : Answer) (r : Outcome) (out mid outAfter table tableAfter places placesAfter : List ℕ) → Answered a r out mid
    → outAfter ≡ zeroed_from mid r.length → tableAfter ≡ zeros (length table) → placesAfter ≡ zeros (length places)
    → Drafted a r out outAfter table tableAfter places placesAfter
drafted a r out mid outAfter table tableAfter places placesAfter d o t p = record {
  outcome = d.outcome;
  output = o ∙ answered_output a r out mid d;
  table_zero = t;
  places_zero = p;
}
