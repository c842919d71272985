use Rattle.std.proofs.Common.{◌≡◌, ◌-◌, ◌^◌, ◌<◌, length}
use Rattle.base_names.specs.Words.{word_at}
use Rattle.base_index.proofs.part_by_bytes.Given as goal

abbrev pub invariant-loop-i : goal.invariant-loop-i
invariant-loop-i l = (l.part ≡ word_at l.s l.i (length l.s - l.i)) × (l.part < 256 ^ (length l.s - l.i))
