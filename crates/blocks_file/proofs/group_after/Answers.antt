-- Assumes nothing.
use Rattle.blocks_file.proofs.Table.{after_many, after_one}
use mathlib.Core.Path.{sym, ◌∙◌}
use Rattle.blocks_file.proofs.group_after.Goals as goal

pub returns-then-is_repeated : goal.returns-then-is_repeated
returns-then-is_repeated c =
    let a = c.args in
    after_many a.file.now a.k a.at c.skip_lines.result (sym c.is_repeated.ensures ∙ c.if-is_repeated.true) c.skip_lines.ensures

pub returns : goal.returns
returns c =
    let a = c.args in
    after_one a.file.now a.k a.at c.line_after.result (sym c.is_repeated.ensures ∙ c.if-is_repeated.false) c.line_after.ensures
