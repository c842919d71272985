-- A class that names no section has none; else the view says whether its section is there. Assumes nothing.
use Rattle.statics_entry.proofs.Entry.{not_there, there_read}
use mathlib.Core.Path.{sym, ◌∙◌}
use Rattle.statics_entry.proofs.is_there.Goals as goal

pub returns-then-code-eq0 : goal.returns-then-code-eq0
returns-then-code-eq0 c =
    not_there c.args.view c.args.class (sym c.storage_code-code.ensures.0 ∙ c.if-code-eq0.true)

pub returns : goal.returns
returns c =
    there_read c.args.view c.args.class _ _ c.storage_code-code.ensures.0 c.if-code-eq0.false c.section.ensures
