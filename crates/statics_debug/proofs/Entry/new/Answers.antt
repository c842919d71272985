-- The fields are the words at their offsets. Assumes nothing.
use Rattle.statics_debug.specs.Entries.{entry_at}
use Rattle.statics_debug.proofs.Entry.new.Goals as goal

pub returns : goal.returns
unfolding entry_at
returns c = λ k. record { name = c.read32.ensures k; value = c.read32-2.ensures k; bits = c.read32-3.ensures k }
