-- The tests of a call, one behind the other: the first that refuses decides (document 01, "Order").
use Rattle.std.specs.Prelude.{ℕ, Bool, true, false, Option, None, Some, Result, Ok, Err}
use Rattle.base_scope.specs.Refusals.{LIMITS}
use Rattle.base_answers.specs.declared.Refusal.{Refusal}
use Rattle.base_answers.specs.Answers.{Answer, refused, NONE}

-- what refuses: number, object and place
abbrev pub Refused : {A : Type 0} → ℕ → ℕ → ℕ → Result A Refusal
Refused number object place = Err (record { number = number; object = object; place = place })

-- what the tests of a call come to
abbrev pub Verdict : Type 0
Verdict = Result (Unit {0}) Refusal

abbrev pub Passed : Verdict
Passed = Ok tt

-- a test, then those behind it
unfoldable pub also : Verdict → Verdict → Verdict
also (Ok u) rest = rest
also (Err r) rest = Err r

-- the answer behind all of them
unfoldable pub if_passed : Verdict → Answer → Answer
if_passed (Ok u) rest = rest
if_passed (Err r) rest = refused r.number r.object r.place

-- refusal 1: whether some limit is broken
unfoldable pub limit_verdict : Bool → Verdict
limit_verdict true = Refused LIMITS NONE 0
limit_verdict false = Passed

-- what a test found, under its number and object
unfoldable pub finding_verdict : ℕ → ℕ → Option ℕ → Verdict
finding_verdict number object None = Passed
finding_verdict number object (Some place) = Refused number object place
