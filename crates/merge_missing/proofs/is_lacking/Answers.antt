-- `merge_missing::is_lacking` meets its contract. Assumes nothing.
use Rattle.elf_check.proofs.Views.{view_has}
use Rattle.merge_missing.proofs.Ends.{both_read, lacking_short, lacking_there, lacking_absent}
use mathlib.Core.Path.{sym, ◌∙◌}
use Rattle.merge_missing.proofs.is_lacking.Goals as goal

pub returns-then-both : goal.returns-then-both
returns-then-both c =
    let a = c.args in
    lacking_short a.order a.object.now a.end a.asked a.code _ c.coded_contents-bytes.ensures (both_read _ _ _ _ _ c.both.ensures c.holds_bytes.ensures c.if-both.true)

pub returns-then-has_coded : goal.returns-then-has_coded
returns-then-has_coded c =
    let a = c.args in
    let p = c.requires in
    lacking_there a.order a.object.now a.end a.asked a.code _ c.coded_contents-bytes.ensures (both_read _ _ _ _ _ c.both.ensures c.holds_bytes.ensures c.if-both.false) (sym (c.has_coded.ensures ∙ view_has a.order a.object.now a.view p.0.is a.code p.1 p.2) ∙ c.if-has_coded.true)

pub returns : goal.returns
returns c =
    let a = c.args in
    let p = c.requires in
    lacking_absent a.order a.object.now a.end a.asked a.code _ c.coded_contents-bytes.ensures (both_read _ _ _ _ _ c.both.ensures c.holds_bytes.ensures c.if-both.false) (sym (c.has_coded.ensures ∙ view_has a.order a.object.now a.view p.0.is a.code p.1 p.2) ∙ c.if-has_coded.false)
