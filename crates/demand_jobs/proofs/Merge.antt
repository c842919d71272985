-- The merge of the job, computed: it is accepted and gives back O, and with a byte less of room it is refused by 21, with the length that it needs. Assumes nothing.
use mathlib.Core.Path.{◌≡◌, refl}
use Rattle.base_scope.specs.Refusals.{OUTPUT_ROOM}
use Rattle.base_answers.specs.Answers.{accepted, refused, NONE}
use Rattle.merge_buffers.specs.Buffers.{BLOCK_BUFFER, PLACE_BUFFER, STEP_BUFFER, INDEX_BUFFER}
use Rattle.demand_three.specs.of_merge_verdict.Verdict.{merge_verdict}
use Rattle.demand_jobs.specs.Job.{C, A, B, path, O}
use Rattle.demand_jobs.proofs.Everything.{everything}

pub job_accepted : merge_verdict C A B path 0 1 432 BLOCK_BUFFER PLACE_BUFFER STEP_BUFFER INDEX_BUFFER ≡ accepted O
unfolding everything
job_accepted = refl

pub job_refused : merge_verdict C A B path 0 1 431 BLOCK_BUFFER PLACE_BUFFER STEP_BUFFER INDEX_BUFFER ≡ refused OUTPUT_ROOM NONE 432
unfolding everything
job_refused = refl
