-- Of the code, not of document 01: what the steps of a call leave behind: its answer, and the result at the front of the output.
use Rattle.std.specs.Prelude.{ℕ, ◌≤◌, List, ◌≡◌, length, take}
use Rattle.base_answers.specs.declared.Outcome.{Outcome}
use Rattle.base_answers.specs.Answers.{Answer, outcome_of, result_of}

pub record Answered (answer : Answer) (r : Outcome) (before after : List ℕ) : Type 0 where
  pub outcome : r ≡ outcome_of answer
  pub long : length after ≡ length before
  pub fits : length (result_of answer) ≤ length before
  pub result : take (length (result_of answer)) after ≡ result_of answer
