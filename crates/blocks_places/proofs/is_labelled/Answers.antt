-- `blocks_places::is_labelled` meets its contract: a line has a label where its value is not empty. Assumes nothing.
use Rattle.blocks_places.proofs.Lines.{labelled_read}
use Rattle.blocks_places.proofs.is_labelled.Goals as goal

pub returns : goal.returns
returns c =
    let a = c.args in
    labelled_read a.file.now a.j c.span_value-v.result.now c.span_value-v.ensures
