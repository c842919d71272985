use Prim.Native.Nat.{ℕ, ◌+◌, ◌≤◌, ◌<◌}
use lib.ListN.{get_or}
use Rattle.base_buffers.proofs.greatest.Given as goal

abbrev pub invariant-loop-i : goal.invariant-loop-i
invariant-loop-i l =
    ((j : ℕ) → j < l.i → get_or l.s (l.at + j) 0 ≤ l.front) × ((j : ℕ) → j < l.i → get_or l.s (l.at + l.half + j) 0 ≤ l.back)
