-- `base_fields::write24` meets its contract: in each byte order, the three bytes stored are the digits of x in that order.
-- Assumes nothing.
use mathlib.Core.Path.{◌≡◌}
use Rattle.base_fields.specs.declared.ByteOrder.TheVariants.{Big, Little}
use Rattle.base_fields.proofs.Numbers.{encoded_big_3, encoded_little_3}
use Rattle.base_fields.proofs.write24.Goals as goal

pub returns-in-Big : goal.returns-in-Big
returns-in-Big c =
    let t : c.args.order ≡ Big = c.in-Big.is in
    rw (t, encoded_big_3) c.store3.ensures

pub returns-in-Little : goal.returns-in-Little
returns-in-Little c =
    let t : c.args.order ≡ Little = c.in-Little.is in
    rw (t, encoded_little_3) c.store3-in-Little.ensures
