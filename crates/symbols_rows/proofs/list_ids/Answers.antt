-- The two groups, one behind the other; no id is in both, so there is room for them. Assumes nothing.
use Rattle.symbols_rows.proofs.Listing.{first_room, second_room, list_both}
use Rattle.symbols_rows.proofs.list_ids.Goals as goal

pub append_group-defined-requires : goal.append_group-defined-requires
append_group-defined-requires c =
    let a = c.args in
    (c.requires.0, c.requires.1, first_room a.rows.now a.n a.list.now c.requires.2)

pub append_group-requires : goal.append_group-requires
append_group-requires c =
    let d = c.append_group-defined in
    let a = c.args in
    (c.requires.0, c.requires.1, second_room a.rows.now a.n _ a.list.now d.new.list c.requires.2 d.auto.list d.ensures)

pub returns : goal.returns
returns c =
    let a = c.args in
    list_both a.rows.now a.n _ _ a.list.now _ _ c.requires.2 c.append_group-defined.ensures c.append_group.ensures
