-- The fields are the words at their offsets. Assumes nothing.
use Rattle.statics_debug.specs.Entries.{file_at}
use Rattle.statics_debug.proofs.FileRecord.new.Goals as goal

pub returns : goal.returns
unfolding file_at
returns c = λ k. record { names = c.read32.ensures k; first = c.read32-2.ensures k; count = c.read32-3.ensures k }
