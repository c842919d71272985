-- What a merge call gives back and leaves: the answer's numbers; the merged object and zeros past it in the output; zeros in the working buffers.
use Rattle.std.specs.Prelude.{List, ◌≡◌, ℕ, length}
use Rattle.base_buffers.specs.Buffers.{zeros}
use Rattle.base_answers.specs.declared.Outcome.{Outcome}
use Rattle.base_answers.specs.Answers.{Answer, outcome_of, output_of}

pub record Merged (answer : Answer) (r : Outcome) (out outAfter table tableAfter places placesAfter steps stepsAfter index index_after : List ℕ) : Type 0 where
  pub outcome : r ≡ outcome_of answer
  pub output : outAfter ≡ output_of answer (length out)
  pub table_zero : tableAfter ≡ zeros (length table)
  pub places_zero : placesAfter ≡ zeros (length places)
  pub steps_zero : stepsAfter ≡ zeros (length steps)
  pub index_zero : index_after ≡ zeros (length index)
