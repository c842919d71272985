-- Demand 3 in the contract of the exported merge: where the call accepts, the front of the output, as long as the answer says, keeps every reference.
use Rattle.std.specs.Prelude.{ℕ, ◌≡◌, List, take}
use Rattle.base_answers.specs.declared.Outcome.{Outcome}
use Rattle.demand_clauses.specs.Demand.{DemandThree}

unfoldable pub Keeps : List ℕ → List ℕ → List ℕ → List ℕ → ℕ → ℕ → Outcome → List ℕ → Type 0
Keeps C A B path flag mode r out = r.number ≡ 0 → DemandThree C A B path flag mode (take r.length out)
