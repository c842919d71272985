-- The bounds decide first, then the path. Assumes nothing.
use mathlib.Core.Path.{sym, ap, ◌∙◌}
use mathlib.Core.Bool.{not}
use Rattle.merge_call.proofs.breaks_limits.Goals as goal

pub returns-then-breaks_merge_bounds : goal.returns-then-breaks_merge_bounds
returns-then-breaks_merge_bounds c =
    let breaks-merge-bounds = c.breaks_merge_bounds in
    let if1 = c.if-breaks_merge_bounds in
    let e = sym breaks-merge-bounds.ensures ∙ if1.true in
    rw e

pub returns : goal.returns
returns c =
    let breaks-merge-bounds = c.breaks_merge_bounds in
    let if1 = c.if-breaks_merge_bounds in
    let is-path = c.is_path in
    let e = sym breaks-merge-bounds.ensures ∙ if1.false in
    rw e (ap not is-path.ensures)
