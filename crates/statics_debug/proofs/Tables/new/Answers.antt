-- The four words stand at 72, 76, 36 and 60 of the header. Assumes nothing.
use Rattle.statics_debug.proofs.Entries.{tables_read}
use Rattle.statics_debug.proofs.Tables.new.Goals as goal

pub returns : goal.returns
returns c =
    let a = c.args in
    tables_read a.order a.debug.now _ _ _ _ c.read32.ensures c.read32-2.ensures c.read32-3.ensures c.read32-4.ensures
