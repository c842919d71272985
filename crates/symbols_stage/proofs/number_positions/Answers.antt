-- The order, then the numbers behind it. Assumes nothing.
use Rattle.symbols_stage.proofs.Stage.{numbered_of}
use Rattle.symbols_stage.proofs.number_positions.Goals as goal

pub returns : goal.returns
returns c =
    let group-starts = c.group_starts-starts in
    let order-result = c.order_result in
    let number-result = c.number_result in
    numbered_of _ _ _ _ _ _ _ _ group-starts.ensures order-result.ensures number-result.ensures
