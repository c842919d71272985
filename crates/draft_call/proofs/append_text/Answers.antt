-- The table of blocks is the front of its buffer. Assumes nothing.
use Rattle.draft_call.proofs.append_text.Goals as goal

pub append_draft-requires : goal.append_draft-requires
append_draft-requires c =
    let p = c.requires in
    (rw c.part-own.ensures p.0, p.1, p.2)
