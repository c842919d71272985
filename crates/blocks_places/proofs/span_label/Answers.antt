-- `blocks_places::span_label` meets its contract: the label is the value's part up to its first space. Assumes nothing.
use Rattle.blocks_places.proofs.Lines.{label_read}
use Rattle.blocks_places.proofs.span_label.Goals as goal

pub returns : goal.returns
returns c =
    let a = c.args in
    let v = c.span_value in
    label_read a.file.now a.j v.result.now c.label_in.result.now v.ensures c.label_in.ensures
