-- `blocks_places::span_size` meets its contract: a line with a label is sound, so its size is at most seven digits and at most the file limit.
-- Assumes nothing.
use Rattle.blocks_places.proofs.Lines.{size_digits, size_read}
use Rattle.blocks_places.proofs.span_size.Goals as goal

pub decimal_of-requires : goal.decimal_of-requires
decimal_of-requires c =
    let a = c.args in
    let p = c.requires in
    let v = c.span_value in
    let d = c.size_in in
    size_digits a.file.now a.j p.1 p.2 v.result.now d.result.now v.ensures d.ensures

pub returns : goal.returns
returns c =
    let a = c.args in
    let p = c.requires in
    let v = c.span_value in
    let d = c.size_in in
    let n = c.decimal_of in
    size_read a.file.now a.j p.1 p.2 v.result.now d.result.now v.ensures n.result d.ensures n.ensures
