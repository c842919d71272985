-- `merge_labels::is_label_at` meets its contract. Assumes nothing.
use Rattle.merge_labels.proofs.Labels.{at_read, at_none}
use mathlib.Core.Path.{◌∙◌}
use mathlib.Core.List.{◌++◌}
use Rattle.merge_labels.proofs.is_label_at.Goals as goal

pub returns-then-l : goal.returns-then-l
returns-then-l c =
    let a = c.args in
    c.both.ensures ∙ at_read a.order a.assembled.now (a.label.now ++ a.suffix.now) a.section a.value _ c.label_of-l.ensures.0 c.if-l.true

pub returns : goal.returns
returns c =
    let a = c.args in
    at_none a.order a.assembled.now (a.label.now ++ a.suffix.now) a.section a.value _ c.label_of-l.ensures.0 c.if-l.false
