-- The three tests of `listable_in`. Assumes nothing.
use Rattle.statics_entry.proofs.Entry.{listable_made}
use Rattle.statics_entry.proofs.is_listable.Goals as goal

pub returns : goal.returns
returns c =
    let a = c.args in
    listable_made a.file.now a.view a.class a.start a.n _ _ _ _ c.is_readable_name-readable.ensures c.is_there-there.ensures c.both-free.ensures c.both.ensures
