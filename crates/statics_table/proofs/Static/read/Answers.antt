-- The fields are the numbers of the row; one byte is read as itself. Assumes nothing.
use Rattle.base_scope.specs.Limits.{STATIC_ROW}
use Rattle.base_fields.specs.declared.ByteOrder.TheVariants.{Big}
use Rattle.base_fields.proofs.Numbers.{number_byte}
use Rattle.statics_table.specs.Table.{static_in}
use native.Mathlib.Omega.{arith}
use Prim.Native.Nat.{◌+◌, ◌*◌}
use mathlib.Core.Path.{sym, ◌∙◌}
use Rattle.statics_table.proofs.Static.read.Goals as goal

pub returns : goal.returns
unfolding static_in
returns c =
    let a = c.args in
    let h = c.requires in
    let byte = number_byte Big a.table.now (STATIC_ROW * a.k + 4) (omega (arith, h.0)) in
    let code = c.wide.ensures.0 ∙ c.read8.ensures ∙ sym byte in
    λ i. record {
      value = c.read32.ensures i;
      code = code i;
      start = c.read24.ensures.0 i;
      length = c.read16.ensures.0 i;
      number = c.read16-2.ensures.0 i;
      offset = c.read24-2.ensures.0 i;
    }
