-- The parts of the buffers are their tables. Assumes nothing.
use Rattle.merge_call.proofs.line_up.Goals as goal

pub line_up-requires : goal.line_up-requires
line_up-requires c =
    let part = c.part-blocks in
    let part2 = c.part-lines in
    let part3 = c.part-names in
    let pre = c.requires in
    (rw (part.ensures, part2.ensures) pre.0, rw part3.ensures pre.4)

pub returns : goal.returns
returns c =
    let part2 = c.part-lines in
    let line-up = c.line_up in
    rw (← part2.ensures) line-up.ensures
