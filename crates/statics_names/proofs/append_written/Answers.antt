-- What the mode puts in front, then the working name. Assumes nothing.
use Rattle.base_lists.proofs.Written.{written_then, written_as}
use Rattle.statics_names.proofs.Names.{head_short, written_parts}
use native.Mathlib.Omega.{arith}
use Rattle.statics_names.proofs.append_written.Goals as goal

pub append_working-requires : goal.append_working-requires
append_working-requires c =
    let a = c.args in
    let q = c.requires in
    let n = head_short a.mode a.path.now in
    let r = c.append_head-a.ensures.end in
    omega arith

pub returns : goal.returns
returns c =
    let a = c.args in
    written_as _ _ _ _ _ _ (written_parts a.mode a.path.now a.file.now a.s) (written_then _ _ _ _ _ _ _ _ c.append_head-a.ensures c.append_working.ensures)
