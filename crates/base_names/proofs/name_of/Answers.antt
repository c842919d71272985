-- `base_names::name_of` meets its contract: the arm taken says which object owns the name, so `table_of` is the table that the call reads.
-- Assumes nothing.
use mathlib.Core.Path.{sym, ap, ◌∙◌}
use Rattle.base_lists.specs.Strings.{name_at}
use Rattle.base_names.specs.Tables.{table_of}
use Rattle.base_names.specs.declared.Owner.{Owner}
use Rattle.base_names.proofs.name_of.Goals as goal

pub returns-in-Compiled : goal.returns-in-Compiled
unfolding table_of
returns-in-Compiled c =
    let a = c.args in
    c.name_at.ensures ∙ ap (λ (o : Owner). name_at (table_of o a.compiled.now a.assembled.now) a.at) (sym c.in-Compiled.is)

pub returns-in-Assembled : goal.returns-in-Assembled
unfolding table_of
returns-in-Assembled c =
    let a = c.args in
    c.name_at-in-Assembled.ensures ∙ ap (λ (o : Owner). name_at (table_of o a.compiled.now a.assembled.now) a.at) (sym c.in-Assembled.is)
