-- The output that an answer asks for, from a buffer whose front holds the result. Assumes nothing.
use mathlib.Core.Path.{◌≡◌, refl}
use mathlib.Core.List.{List}
use Prim.Native.Nat.{ℕ}
use lib.ListN.{length, take}
use Rattle.base_buffers.specs.Buffers.{zeroed_from}
use Rattle.base_answers.specs.Answers.{Answer, accepted, refused, length_outcome, outcome_of, result_of, output_of}

-- the length that crosses the boundary is the result's
pub outcome_length : (a : Answer) → (outcome_of a).length ≡ length (result_of a)
unfolding outcome_of length_outcome result_of
outcome_length (accepted s) = refl
outcome_length (refused n o p) = refl

-- zeroed past the result
pub output_zeroed : (a : Answer) (after : List ℕ) (n m : ℕ) → m ≡ length (result_of a) → length after ≡ n → take (length (result_of a)) after ≡ result_of a → zeroed_from after m ≡ output_of a n
unfolding zeroed_from output_of
output_zeroed a after n m e h t = rw (e, t, h)
