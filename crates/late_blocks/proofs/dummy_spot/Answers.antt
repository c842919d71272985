-- `late_blocks::dummy_spot` meets its contract: its word and its number are those of the definition. Assumes nothing.
use Rattle.late_blocks.proofs.Items.{item_spot}
use Rattle.late_blocks.proofs.dummy_spot.Goals as goal

pub returns : goal.returns
returns c =
    let a = c.args in
    let p = c.requires in
    let m = c.is_first_of_many-many in
    let w = c.dummy_word-word in
    item_spot a.order a.file.now a.rodata.now a.i a.last a.k a.count w.result m.result c.place_dummy.result
    p.2 p.3 m.ensures w.ensures c.place_dummy.ensures
