-- A section of type NOBITS states its own size, every other what it holds. Assumes nothing.
use Rattle.write_object.proofs.Steps.{size_nobits, size_held}
use Rattle.write_object.proofs.written_size.Goals as goal

pub returns-then-h-eq-SHT_NOBITS : goal.returns-then-h-eq-SHT_NOBITS
returns-then-h-eq-SHT_NOBITS c = size_nobits c.args.h c.args.bytes c.if-h-eq-SHT_NOBITS.true

pub returns : goal.returns
returns c = size_held c.args.h c.args.bytes c.if-h-eq-SHT_NOBITS.false
