-- The labels of the first k lines of the block are written, each at most 2 ^ 21 bytes. Assumes nothing.
use Rattle.base_scope.specs.Codes.{LINES}
use Rattle.blocks_file.proofs.Blocks.{count_high}
use Rattle.base_lists.proofs.Written.{written_none, written_then, written_as}
use Rattle.draft_text.proofs.Text.{labels_so, labels_zero, labels_next, labels_all}
use native.Mathlib.Omega.{arith}
use mathlib.Core.Path.{◌≡◌, sym, ap, ◌∙◌}
use Rattle.draft_text.proofs.append_labels.Goals as goal

pub loop-k-init : goal.loop-k-init
loop-k-init c =
    let a = c.args in
    (omega arith, written_as _ _ _ _ _ _ (sym (labels_zero a.file.now a.suffix.now a.i)) (written_none _ _), omega arith)

pub overflow_mul-i : goal.overflow_mul-i
overflow_mul-i c = omega (arith, count_high c.args.file.now)

pub overflow_add-i : goal.overflow_add-i
overflow_add-i c = omega (arith, count_high c.args.file.now)

pub append_label_text-next-requires : goal.append_label_text-next-requires
append_label_text-next-requires c =
    let l = c.loop-k in
    let q = c.requires in
    (q.0, omega (arith, q.1), omega (arith, l.invariant.2), q.3)

pub loop-k-preserved : goal.loop-k-preserved
loop-k-preserved c =
    let a = c.args in
    let l = c.loop-k in
    let w = c.append_label_text-next.ensures in
    (omega arith, written_as _ _ _ _ _ _ (labels_next a.file.now a.suffix.now a.i l.k) (written_then _ _ _ _ _ _ _ _ l.invariant.1 w.0), omega (arith, l.invariant.2, w.1))

pub shape_of-out : goal.shape_of-out
shape_of-out c = c.loop-k.invariant.1.long

pub returns : goal.returns
returns c =
    let a = c.args in
    let l = c.loop-k in
    let e : l.k ≡ LINES = omega arith in
    (written_as _ _ _ _ _ _ (ap (labels_so a.file.now a.suffix.now a.i) e ∙ labels_all a.file.now a.suffix.now a.i) l.invariant.1, omega (arith, l.invariant.2))
