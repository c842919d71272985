-- The laws of tests one behind the other: one that passes leaves the rest to decide, one that refuses decides; and what an accepted answer says of all of them.
-- Assumes nothing.
use Rattle.std.specs.Prelude.{None, Some, Option, Ok, Err}
use Prim.Native.Nat.{ℕ, ◌≤◌}
use mathlib.Core.Path.{◌≡◌, refl, sym, ◌∙◌}
use mathlib.Core.Bool.{Bool, true, false}
use mathlib.Core.List.{List}
use native.Mathlib.Omega.{arith}
use lib.ListN.{length}
use lib.Dec.{leb}
use borrow.Author.Tests.{leb-true}
use Rattle.base_scope.specs.Refusals.{LIMITS, OUTPUT_ROOM}
use Rattle.base_answers.specs.Answers.{Answer, accepted, refused, NONE, pick_answer, room_for}
use Rattle.base_answers.specs.Verdicts.{Passed, Refused, Verdict, also, if_passed, limit_verdict, finding_verdict}

module _ (v rest : Verdict) where
  pub also_passed : v ≡ Passed → also v rest ≡ rest
  unfolding also
  also_passed e = rw e

  pub also_refused : (n o p : ℕ) → v ≡ Refused n o p → also v rest ≡ Refused n o p
  unfolding also
  also_refused n o p e = rw e

-- where all pass, each does
pub also_parts : (v rest : Verdict) → also v rest ≡ Passed → (v ≡ Passed) × (rest ≡ Passed)
unfolding also
also_parts (Ok u) rest e = (refl, e)
also_parts (Err r) rest e = (cc, cc)

module _ (v : Verdict) (rest : Answer) where
  pub if_passed_lem : v ≡ Passed → if_passed v rest ≡ rest
  unfolding if_passed
  if_passed_lem e = rw e

  pub if_refused : (n o p : ℕ) → v ≡ Refused n o p → if_passed v rest ≡ refused n o p
  unfolding if_passed
  if_refused n o p e = rw e

-- behind an accepted answer every test passed
pub if_accepted : (v : Verdict) (rest : Answer) (x : List ℕ) → if_passed v rest ≡ accepted x → (v ≡ Passed) × (rest ≡ accepted x)
unfolding if_passed
if_accepted (Ok u) rest x e = (refl, e)
if_accepted (Err r) rest x e = (cc, cc)

pub room_accepted : (text x : List ℕ) (room : ℕ) → room_for text room ≡ accepted x → (x ≡ text) × (length text ≤ room)
unfolding room_for
room_accepted text x room e = picked (leb (length text) room) e refl
  where
    picked : (b : Bool) → pick_answer b (accepted text) (refused OUTPUT_ROOM NONE (length text)) ≡ accepted x → leb (length text) room ≡ b → (x ≡ text) × (length text ≤ room)
    picked true e t = (cc, leb-true _ _ t)
    picked false e t = (cc, absurd (wrong e))
      where
        wrong : refused OUTPUT_ROOM NONE (length text) ≡ accepted x → ⊥
        wrong e = let z : ◌≡◌ {A = ℕ} 0 1 = cc in omega arith

module _ (b : Bool) where
  pub limit_kept : b ≡ false → limit_verdict b ≡ Passed
  unfolding limit_verdict
  limit_kept e = rw e

  pub limit_broken : b ≡ true → limit_verdict b ≡ Refused LIMITS NONE 0
  unfolding limit_verdict
  limit_broken e = rw e

pub limit_passed : (b : Bool) → limit_verdict b ≡ Passed → b ≡ false
unfolding limit_verdict
limit_passed true e = cc
limit_passed false e = refl

module _ (number object : ℕ) (f : Option ℕ) where
  pub finding_clear : f ≡ None → finding_verdict number object f ≡ Passed
  unfolding finding_verdict
  finding_clear e = rw e

  pub finding_at : (place : ℕ) → f ≡ Some place → finding_verdict number object f ≡ Refused number object place
  unfolding finding_verdict
  finding_at place e = rw e

pub finding_passed : (number object : ℕ) (f : Option ℕ) → finding_verdict number object f ≡ Passed → f ≡ None
unfolding finding_verdict
finding_passed number object None e = refl
finding_passed number object (Some place) e = cc
