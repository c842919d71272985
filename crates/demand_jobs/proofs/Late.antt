-- The job with a late word, computed: the merge is accepted and gives back O; and demand 3 is refuted for wrong outputs of it. Assumes nothing.
use mathlib.Core.Path.{◌≡◌, refl, ap}
use mathlib.Core.List.{[], ◌∷◌}
use lib.Dec.{lit<, lit≤}
use borrow.Author.Tests.{eqb-false}
use Rattle.base_lists.proofs.Strings.{same_false}
use Rattle.base_answers.specs.Answers.{accepted}
use Rattle.elf_records.specs.Relocation.{addend_fields}
use Rattle.elf_samples.specs.Samples.{words}
use Rattle.merge_buffers.specs.Buffers.{BLOCK_BUFFER, PLACE_BUFFER, STEP_BUFFER, INDEX_BUFFER}
use Rattle.demand_three.specs.of_merge_verdict.Verdict.{merge_verdict}
use Rattle.demand_clauses.specs.Demand.{DemandThree}
use Rattle.demand_jobs.specs.LateJob.{C, A, B, path, O, dummied, readdressed, unmoved, retargeted, tableless}
use Rattle.demand_jobs.proofs.Everything.{everything}

pub late_accepted : merge_verdict C A B path 0 1 584 BLOCK_BUFFER PLACE_BUFFER STEP_BUFFER INDEX_BUFFER ≡ accepted O
unfolding everything
late_accepted = refl

-- ---- wrong outputs

-- the third, the late one, has A's word
pub not_dummied : DemandThree C A B path 0 1 dummied → ⊥
unfolding everything
not_dummied d = same_false (words (0xE0123456 ∷ [])) (words (0x00000020 ∷ [])) refl ((d.same 2 (lit< tt)).word (lit≤ tt) refl)

-- the second has A's addend
pub not_readdressed : DemandThree C A B path 0 1 readdressed → ⊥
unfolding everything
not_readdressed d = same_false (8 ∷ []) (16 ∷ []) refl (ap addend_fields (d.same 1 (lit< tt)).addend)

pub not_unmoved : DemandThree C A B path 0 1 unmoved → ⊥
unfolding everything
not_unmoved d = eqb-false 0 4 refl (d.same 2 (lit< tt)).place

pub not_retargeted : DemandThree C A B path 0 1 retargeted → ⊥
unfolding everything
not_retargeted d = eqb-false 1 2 refl (d.same 2 (lit< tt)).target

-- three are owed
pub not_tableless : DemandThree C A B path 0 1 tableless → ⊥
unfolding everything
not_tableless d = eqb-false 2 3 refl d.many
