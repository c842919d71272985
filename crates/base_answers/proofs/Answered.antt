-- The laws of what the steps of a call leave behind: a refusal, a result that fits or not, and what the call makes of the output. Assumes nothing.
use mathlib.Core.Path.{◌≡◌, refl, ap, ◌∙◌}
use mathlib.Core.List.{List}
use Prim.Native.Nat.{ℕ, ◌+◌, ◌≤◌, ◌<◌}
use native.Mathlib.Omega.{arith}
use native.Mathlib.Nat.{zero-add}
use lib.ListN.{length, take, drop}
use lib.Seq.{take_at}
use borrow.Author.Tests.{le-leb, lt-leb}
use Rattle.base_lists.specs.Windows.{spliced}
use Rattle.base_lists.specs.Written.{Written}
use Rattle.base_buffers.specs.Buffers.{zeroed_from}
use Rattle.base_answers.specs.declared.Outcome.{Outcome}
use Rattle.base_answers.specs.Answers.{Answer, accepted, refused, length_outcome, outcome_of, result_of, output_of, room_for}
use Rattle.base_answers.specs.Answered.{Answered}
use Rattle.base_answers.proofs.Answers.{outcome_length, output_zeroed}

pub answered_as : (a b : Answer) (r : Outcome) (x y : List ℕ) → a ≡ b → Answered a r x y → Answered b r x y
answered_as a b r x y e p = rw e at p

-- a refusal leaves an output of the same length
pub answered_refused : (n o p : ℕ) (r : Outcome) (x y : List ℕ) → r ≡ outcome_of (refused n o p) → length y ≡ length x → Answered (refused n o p) r x y
unfolding result_of
answered_refused n o p r x y e l = record { outcome = e; long = l; fits = omega arith; result = refl }

-- a result stands at the front of the output
accepted_whole : (s x y : List ℕ) (r : Outcome) → r ≡ length_outcome (length s) → length y ≡ length x → length s ≤ length x → take (length s) y ≡ s → Answered (accepted s) r x y
unfolding result_of outcome_of
accepted_whole s x y r e l f t = record { outcome = e; long = l; fits = f; result = t }

-- ---- refusal 21

module _ (text before after : List ℕ) (n : ℕ) (r : Outcome) (w : Written before 0 text n after) where
  long : n ≡ length text
  long = w.end ∙ zero-add (length text)

  front : length text ≤ length before → take (length text) after ≡ text
  unfolding spliced
  front h = rw (w.bytes (rw (zero-add (length text)) h)) (take_at text (drop (0 + length text) before) (length text) refl)

  pub room_there : n ≤ length before → r ≡ length_outcome n → Answered (room_for text (length before)) r before after
  unfolding room_for
  room_there h e =
      let k : length text ≤ length before = omega (arith, long) in
      rw (le-leb _ _ k) (accepted_whole text before after r (e ∙ ap length_outcome long) w.long k (front k))

  pub room_short : length before < n → r ≡ outcome_of (refused 21 0 n) → Answered (room_for text (length before)) r before after
  unfolding room_for
  room_short h e =
      let k : length before < length text = omega (arith, long) in
      rw (lt-leb _ _ k, ← long) (answered_refused 21 0 n r before after e w.long)

-- the length that crosses the boundary lies in the output
pub length_inside : (a : Answer) (r : Outcome) (before after : List ℕ) → Answered a r before after → r.length ≤ length after
length_inside a r before after d = omega (arith, d.fits, d.long, ap (λ (x : Outcome). x.length) d.outcome, outcome_length a)

-- and the output zeroed behind it is what the answer asks for
pub answered_output : (a : Answer) (r : Outcome) (before after : List ℕ) → Answered a r before after → zeroed_from after r.length ≡ output_of a (length before)
answered_output a r before after d =
    output_zeroed a after (length before) r.length (ap (λ (x : Outcome). x.length) d.outcome ∙ outcome_length a) d.long d.result
