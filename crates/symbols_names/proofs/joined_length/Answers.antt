-- The length of the tail is had, and lengths add up. Assumes nothing.
use Rattle.symbols_names.proofs.Tails.{joined_long}
use Rattle.symbols_names.proofs.joined_length.Goals as goal

pub returns : goal.returns
returns c =
    let a = c.args in
    joined_long a.stored.now a.number _ c.tail_length-n.ensures.0
