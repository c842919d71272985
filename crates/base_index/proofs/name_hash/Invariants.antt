use Rattle.std.proofs.Common.{◌≡◌, ◌+◌, ◌*◌, ◌%◌}
use Rattle.base_names.specs.Words.{first_byte, word_at}
use Rattle.base_index.specs.Index.{ROUND}
use Rattle.base_index.proofs.name_hash.Given as goal

abbrev pub invariant-loop-k : goal.invariant-loop-k
invariant-loop-k l = (first_byte l.t 0 l.at ≡ first_byte l.t 0 (l.at + l.k * 8)) × (l.sum % ROUND ≡ word_at l.t l.at (l.k * 8) % ROUND)
