-- The parts of the buffer are its tables. Assumes nothing.
use Rattle.symbols_stage.proofs.taken_verdict.Goals as goal

pub taken_verdict-requires : goal.taken_verdict-requires
taken_verdict-requires c =
    let pre = c.requires in
    let part2 = c.part-used in
    let part = c.part-late in
    (pre.0, rw part2.ensures pre.1, rw part.ensures pre.2)

pub returns : goal.returns
returns c =
    let part = c.part-late in
    let taken-verdict = c.taken_verdict in
    rw (← part.ensures) taken-verdict.ensures
