-- `merge_missing::goes_to` meets its contract. Assumes nothing.
use Rattle.merge_missing.proofs.Ends.{goes_read}
use mathlib.Core.Path.{◌∙◌}
use Rattle.merge_missing.proofs.goes_to.Goals as goal

pub returns : goal.returns
returns c =
    let a = c.args in
    c.both.ensures ∙ goes_read a.order a.assembled.now a.target a.code _ _ c.coded_contents-bytes.ensures c.target_code.ensures
