-- The six fields are written one behind the other. Assumes nothing.
use Rattle.base_scope.specs.Limits.{STATIC_ROW}
use Rattle.statics_table.proofs.Table.{row_written}
use Prim.Native.Nat.{◌*◌}
use Rattle.statics_table.proofs.Static.write.Goals as goal

pub returns : goal.returns
returns c =
    let a = c.args in
    row_written a.self a.table.now (STATIC_ROW * a.n) _ _ _ _ _ _ c.requires.0
    c.write32.ensures
    c.write8.ensures
    c.write24.ensures
    c.write16.ensures
    c.write16-2.ensures
    c.write24-2.ensures
