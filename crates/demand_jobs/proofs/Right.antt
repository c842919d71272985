-- Demand 3 holds of the job's result, clause by clause: not only by the theorem of all merges (but for its bytes, which are that theorem's). Assumes nothing.
use mathlib.Core.Path.{refl}
use Rattle.merge_buffers.specs.Buffers.{BLOCK_BUFFER, PLACE_BUFFER, STEP_BUFFER, INDEX_BUFFER}
use Rattle.demand_three.proofs.of_merge_verdict.Accepted.{merge_accepted}
use Rattle.demand_clauses.specs.Demand.{DemandThree}
use Rattle.demand_three.proofs.of_demand_bytes.Bytes.{bytes_kept}
use Rattle.demand_jobs.specs.Job.{C, A, B, path, O}
use Rattle.demand_jobs.proofs.Everything.{everything}
use Rattle.demand_jobs.proofs.Merge.{job_accepted}
use Rattle.demand_jobs.proofs.Object.{reads}
use Rattle.demand_jobs.proofs.Entries.{locals, once, same}
use Rattle.demand_jobs.proofs.Once.{owed_once}

pub right : DemandThree C A B path 0 1 O
unfolding everything
right = record {
  reads = reads;
  symbols = record { locals = locals; once = once };
  once = owed_once;
  many = refl;
  same = same;
  bytes = bytes_kept C A B path 0 1 O (merge_accepted C A B path 0 1 432 BLOCK_BUFFER PLACE_BUFFER STEP_BUFFER INDEX_BUFFER O job_accepted);
}
