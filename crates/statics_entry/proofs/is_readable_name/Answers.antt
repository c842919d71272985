-- The zero end stands behind the name where that is inside the file. Assumes nothing.
use Rattle.statics_entry.proofs.Entry.{readable_is}
use mathlib.Core.Path.{ap, ◌∙◌}
use lib.ListN.{length}
use Rattle.statics_entry.proofs.is_readable_name.Goals as goal

pub returns : goal.returns
returns c =
    let a = c.args in
    c.both.ensures ∙ readable_is a.file.now a.start _ (ap length c.name_at-n.ensures)
