-- Both tests. Assumes nothing.
use Rattle.symbols_names.specs.of_symbols_taken.Taken.{is_placed_in}
use Rattle.symbols_entries.proofs.is_placed.Goals as goal

pub returns : goal.returns
unfolding is_placed_in
returns c = c.both.ensures
