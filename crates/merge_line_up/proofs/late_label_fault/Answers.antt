-- `merge_line_up::late_label_fault` meets its contract. Assumes nothing.
use Rattle.merge_line_up.proofs.LineUp.{fault_step, fault_still}
use mathlib.Core.Path.{◌∙◌}
use Rattle.merge_line_up.proofs.late_label_fault.Goals as goal

pub returns-then-size-gt0 : goal.returns-then-size-gt0
returns-then-size-gt0 c =
    let a = c.args in
    c.expected.ensures ∙ fault_step a.order a.assembled.now a.size _ c.is_late_lined-lined.ensures c.if-size-gt0.true

pub returns : goal.returns
returns c =
    let a = c.args in
    fault_still a.order a.assembled.now a.size c.if-size-gt0.false
