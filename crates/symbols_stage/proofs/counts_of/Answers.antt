-- The counts are one more than the starts, for entry 0. Assumes nothing.
use mathlib.Core.Path.{refl}
use Rattle.symbols_stage.specs.End.{counts_of}
use Rattle.symbols_stage.proofs.counts_of.Goals as goal

pub returns : goal.returns
unfolding counts_of
returns c =
    refl
