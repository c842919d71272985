-- The word of the position is compared with it. Assumes nothing.
use Rattle.symbols_numbers.proofs.Leaves.{holder_told}
use Rattle.symbols_numbers.proofs.is_holder.Goals as goal

pub returns : goal.returns
returns c =
    let a = c.args in
    holder_told a.holders.now a.p _ c.half_at.ensures.0
