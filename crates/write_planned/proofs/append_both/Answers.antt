-- Two texts in a row. Assumes nothing.
use native.Mathlib.Omega.{arith}
use Rattle.base_lists.proofs.Written.{written_then}
use Rattle.write_planned.proofs.append_both.Goals as goal

pub returns : goal.returns
returns c =
    let v-append-kept = c.append_kept-end in
    let v-append-others = c.append_others in
    (written_then _ _ _ _ _ _ _ _ v-append-kept.ensures.0 v-append-others.ensures.0, omega (arith, v-append-kept.ensures.1, v-append-others.ensures.1))
