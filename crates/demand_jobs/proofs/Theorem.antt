-- The same by the theorem of all merges: its premises compute on the job, so it is not empty. Assumes nothing.
use Prim.Native.Nat.{ℕ, ◌<◌}
use mathlib.Core.Path.{◌≡◌, refl}
use mathlib.Core.List.{List}
use native.Mathlib.Omega.{arith}
use lib.ListN.{length, get_or, get_or-eq_default}
use lib.Dec.{leb}
use borrow.Author.Tests.{leb-false}
use Rattle.base_lists.specs.Ranges.{first}
use Rattle.base_lists.proofs.Ranges.{by-lt, none_first}
use Rattle.merge_buffers.specs.Buffers.{BLOCK_BUFFER, PLACE_BUFFER, STEP_BUFFER, INDEX_BUFFER}
use Rattle.demand_clauses.specs.Reading.{Bytes}
use Rattle.demand_clauses.specs.Demand.{DemandThree}
use Rattle.demand_three.proofs.Theorem.{no_reference_lost}
use Rattle.demand_jobs.specs.Job.{C, A, B, path, O}
use Rattle.demand_jobs.proofs.Everything.{everything}
use Rattle.demand_jobs.proofs.Merge.{job_accepted}

-- a list without a number over 255
bytes_of : (l : List ℕ) → first (λ i. leb 256 (get_or l i 0)) 0 (length l) ≡ length l → Bytes l
bytes_of l e i = by-lt i (length l)
    (λ h. leb-false 256 (get_or l i 0) (none_first (λ i. leb 256 (get_or l i 0)) 0 (length l) i e (omega arith) h))
    (λ h. omega (arith, get_or-eq_default l 0 h))

compiled_bytes : Bytes C
unfolding everything
compiled_bytes = bytes_of C refl

assembled_bytes : Bytes A
unfolding everything
assembled_bytes = bytes_of A refl

pub right_by_theorem : DemandThree C A B path 0 1 O
right_by_theorem = no_reference_lost C A B path 0 1 432 BLOCK_BUFFER PLACE_BUFFER STEP_BUFFER INDEX_BUFFER O compiled_bytes assembled_bytes job_accepted
