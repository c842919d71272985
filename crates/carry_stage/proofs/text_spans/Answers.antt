-- The rows are written behind those of a section, by the tables of blocks and places. Assumes nothing.
use Rattle.carry_stage.proofs.Ready.{text_spans_room, text_spans_left}
use Rattle.carry_stage.proofs.text_spans.Goals as goal

pub gather_spans-requires : goal.gather_spans-requires
gather_spans-requires c =
    let pre = c.requires in
    let args = c.args in
    let part = c.part-own in
    let part2 = c.part-lines in
    let bound = c.bound-from in
    let bound2 = c.bound-to in
    (rw (part.ensures, part2.ensures) pre.0, pre.1, text_spans_room _ _ args.index.now bound.ensures bound2.ensures pre.4)

pub returns : goal.returns
returns c =
    let pre = c.requires in
    let args = c.args in
    let part = c.part-own in
    let part2 = c.part-lines in
    let bound = c.bound-from in
    let bound2 = c.bound-to in
    let gather-spans = c.gather_spans in
    text_spans_left _ _ args.index.now bound.ensures bound2.ensures pre.4 args.file.now _ _ args.table.now args.places.now
    part.ensures part2.ensures pre.0 _ _ gather-spans.auto.rows gather-spans.ensures
