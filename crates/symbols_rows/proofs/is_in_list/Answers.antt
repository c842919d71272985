-- The two conjuncts of `in_group`, from the row of the id. Assumes nothing.
use Rattle.symbols_rows.proofs.Listing.{in_read}
use Rattle.symbols_rows.proofs.is_in_list.Goals as goal

pub returns : goal.returns
returns c =
    let a = c.args in
    in_read a.rows.now a.group a.i _ _ _ c.id_at-row.ensures c.section_group.ensures c.both.ensures
