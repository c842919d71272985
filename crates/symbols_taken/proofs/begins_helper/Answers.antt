-- The table from `at` on tells, or there is no name. Assumes nothing.
use Rattle.base_lists.specs.Strings.{prefixed}
use Rattle.base_lists.proofs.Windows.{tail_part}
use Rattle.base_scope.specs.Text.{text}
use Rattle.symbols_taken.proofs.Prefixes.{begins_as_table, helper_whole, helper_past}
use native.Mathlib.Omega.{arith}
use mathlib.Core.Path.{ap, ◌∙◌}
use Rattle.symbols_taken.proofs.begins_helper.Goals as goal

pub returns-then-at-t : goal.returns-then-at-t
returns-then-at-t c =
    let a = c.args in
    helper_past a.t.now a.at (omega (arith, c.if-at-t.true))

pub returns : goal.returns
unfolding text
returns c =
    let a = c.args in
    c.has_prefix.ensures ∙ ap (prefixed (text "_asmpp_")) (tail_part a.t.now a.at) ∙ begins_as_table a.t.now (text "_asmpp_") a.at helper_whole
