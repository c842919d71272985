-- One number is written, that of the id. Assumes nothing.
use Rattle.symbols_numbers.proofs.Leaves.{numbered_put}
use Rattle.symbols_numbers.proofs.number_position.Goals as goal

pub returns : goal.returns
returns c =
    let a = c.args in
    numbered_put a.list.now a.holders.now a.p a.place a.numbers.now _ _ _ _ c.number_at-number.ensures.0 c.half_at.ensures.0
    c.write16.ensures c.count_behind.ensures
