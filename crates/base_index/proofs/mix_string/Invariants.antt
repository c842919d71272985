use Rattle.std.proofs.Common.{◌≡◌, ◌-◌, ◌*◌, ◌%◌, length}
use Rattle.base_index.specs.Index.{ROUND, mixed_at}
use Rattle.base_index.proofs.mix_string.Given as goal

abbrev pub invariant-loop-i : goal.invariant-loop-i
invariant-loop-i l = l.g % ROUND ≡ mixed_at l.s (l.i * 8) (length l.s - l.i * 8) l.h
