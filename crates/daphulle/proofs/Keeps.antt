-- An answer with number 0 is an accepted one, and its object keeps every reference. Assumes nothing.
use Prim.Native.Nat.{ℕ, ◌-◌}
use mathlib.Core.Path.{◌≡◌, refl, sym, ap, ◌∙◌, subst}
use mathlib.Core.List.{List, ◌++◌}
use native.Mathlib.Omega.{arith}
use lib.ListN.{length, take}
use lib.Seq.{take-append_seam}
use Rattle.base_buffers.specs.Buffers.{zeros}
use Rattle.base_answers.specs.declared.Outcome.{Outcome}
use Rattle.base_answers.specs.Answers.{Answer, accepted, refused, length_outcome, outcome_of, result_of, output_of}
use Rattle.merge_call.specs.of_merge_verdict.Verdict.{merge_verdict}
use Rattle.merge_call.proofs.of_merge_verdict.Numbers.{merge_numbered}
use Rattle.demand_clauses.specs.Reading.{Bytes}
use Rattle.demand_clauses.specs.Demand.{DemandThree}
use Rattle.demand_three.proofs.Theorem.{no_reference_lost}
use Rattle.daphulle.specs.Keeps.{Keeps}

module _ (C A B path : List ℕ) (flag mode room table places steps index : ℕ) (compiled : Bytes C) (assembled : Bytes A) (r : Outcome) (out : List ℕ) where
  abbrev verdict : Answer
  verdict = merge_verdict C A B path flag mode room table places steps index

  by_answer : (v : Answer) → verdict ≡ v → r ≡ outcome_of v → (n : ℕ) → out ≡ output_of v n → Keeps C A B path flag mode r out
  unfolding Keeps outcome_of length_outcome result_of output_of
  by_answer (accepted O) e q n u = λ z.
      let l : r.length ≡ length O = ap (λ (x : Outcome). x.length) q in
      let f : O ≡ take r.length out = sym (ap (λ (x : List ℕ). take r.length x) u ∙ ap (λ (k : ℕ). take k (O ++ zeros (n - length O))) l ∙ take-append_seam O (zeros (n - length O))) in
      subst (DemandThree C A B path flag mode) f (no_reference_lost C A B path flag mode room table places steps index O compiled assembled e)
  by_answer (refused number object place) e q n u = λ z.
      let m : r.number ≡ number = ap (λ (x : Outcome). x.number) q in
      absurd (omega (arith, m, z, (merge_numbered C A B path flag mode room table places steps index number object place e).0))

  pub keeps : r ≡ outcome_of verdict → out ≡ output_of verdict room → Keeps C A B path flag mode r out
  keeps q u = by_answer verdict refl q room u
