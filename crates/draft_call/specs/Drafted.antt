-- What a draft call gives back and leaves: the answer's numbers; the result and zeros past it in the output; zeros in the working buffers.
use Rattle.std.specs.Prelude.{ℕ, List, ◌≡◌, length}
use Rattle.base_answers.specs.declared.Outcome.{Outcome}
use Rattle.base_answers.specs.Answers.{Answer, outcome_of, output_of}
use Rattle.base_buffers.specs.Buffers.{zeros}

pub record Drafted (answer : Answer) (r : Outcome) (out outAfter table tableAfter places placesAfter : List ℕ) : Type 0 where
  pub outcome : r ≡ outcome_of answer
  pub output : outAfter ≡ output_of answer (length out)
  pub table_zero : tableAfter ≡ zeros (length table)
  pub places_zero : placesAfter ≡ zeros (length places)
