-- The number that is read. Assumes nothing.
use Rattle.symbols_holders.specs.Ready.{known_in}
use Rattle.symbols_holders.proofs.known_hash.Goals as goal

pub returns : goal.returns
unfolding known_in
returns c =
    c.read16.ensures.0
