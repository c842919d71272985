-- The draft, whole (document 01, "What a call gives back" and "Order"): 1; what opens the inputs, 2 to 9; then 21.
use Rattle.std.specs.Prelude.{ℕ, List, [], ◌∷◌, length}
use Rattle.base_scope.specs.Limits.{FILE_LIMIT, OPEN_TABLE, PLACE_TABLE, Bound, at_most, at_least, over_limits}
use Rattle.base_answers.specs.Answers.{Answer, room_for}
use Rattle.base_answers.specs.Verdicts.{also, if_passed, limit_verdict}
use Rattle.elf_readers.specs.Readers.{order_of}
use Rattle.blocks_places.specs.Places.{places_of}
use Rattle.draft_text.specs.Draft.{draft_text}
use Rattle.open_inputs.specs.Open.{open_verdict}

-- refusal 1 of this call: the lengths of C, the prelude and the block file, and those of the working buffers
unfoldable pub draft_bounds : ℕ → ℕ → ℕ → ℕ → ℕ → List Bound
draft_bounds compiled prelude blocks table places =
    at_most FILE_LIMIT compiled
    ∷ at_most FILE_LIMIT prelude
    ∷ at_most FILE_LIMIT blocks
    ∷ at_least OPEN_TABLE table
    ∷ at_least PLACE_TABLE places
    ∷ []

module _ (C prelude B : List ℕ) where
  -- the whole call: room is the output's length, the last two those of the working buffers
  unfoldable pub draft_verdict : ℕ → ℕ → ℕ → Answer
  draft_verdict room table places =
      if_passed
      (also (limit_verdict (over_limits (draft_bounds (length C) (length prelude) (length B) table places)))
      (open_verdict C B))
      (room_for (draft_text (places_of (order_of C) C B) B prelude) room)
