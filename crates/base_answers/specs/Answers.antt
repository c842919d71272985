-- What a call gives back (document 01, "What a call gives back"): a result and its length, or a number, an object and a place.
use Rattle.std.specs.Prelude.{ℕ, ◌-◌, Bool, true, false, List, [], ◌++◌, length, leb}
use Rattle.base_scope.specs.Refusals.{OUTPUT_ROOM}
use Rattle.base_buffers.specs.Buffers.{zeros}
use Rattle.base_answers.specs.declared.Outcome.{Outcome}

pub data Answer : Type 0 where
  accepted : List ℕ → Answer
  refused : ℕ → ℕ → ℕ → Answer

-- the objects of the table: none, C, A
abbrev pub NONE : ℕ
NONE = 0

abbrev pub COMPILED : ℕ
COMPILED = 1

abbrev pub ASSEMBLED : ℕ
ASSEMBLED = 2

-- the numbers of a result of n bytes
unfoldable pub length_outcome : ℕ → Outcome
length_outcome n = record { length = n; number = 0; object = 0; place = 0 }

-- an answer as the numbers that cross the boundary
unfoldable pub outcome_of : Answer → Outcome
outcome_of (accepted result) = length_outcome (length result)
outcome_of (refused number object place) = record { length = 0; number = number; object = object; place = place }

unfoldable pub result_of : Answer → List ℕ
result_of (accepted result) = result
result_of (refused number object place) = []

-- the output buffer, of n bytes, on return: the result, and zeros past its length
unfoldable pub output_of : Answer → ℕ → List ℕ
output_of answer n = result_of answer ++ zeros (n - length (result_of answer))

abbrev pub pick_answer : Bool → Answer → Answer → Answer
pick_answer true a b = a
pick_answer false a b = b

-- refusal 21: the exact length that is needed
unfoldable pub room_for : List ℕ → ℕ → Answer
room_for text room = pick_answer (leb (length text) room) (accepted text) (refused OUTPUT_ROOM NONE (length text))
