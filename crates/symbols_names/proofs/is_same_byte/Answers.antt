-- Both bytes are had. Assumes nothing.
use lib.Dec.{eqb}
use Rattle.symbols_names.proofs.is_same_byte.Goals as goal

pub returns : goal.returns
returns c = λ k. eqb (c.joined_byte-x.ensures k) (c.joined_byte-y.ensures k)
