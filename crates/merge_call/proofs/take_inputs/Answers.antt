-- The table of places is the first of its buffer. Assumes nothing.
use Rattle.merge_call.proofs.Stages.{took_put}
use Rattle.merge_call.proofs.take_inputs.Goals as goal

pub returns : goal.returns
returns c =
    let a = c.args in
    let t = c.take_inputs in
    took_put _ _ a.places.now c.bound-from.ensures c.bound-to.ensures c.requires.2
    a.compiled.now a.assembled.now a.file.now _ _ _ t.auto.places t.ensures
