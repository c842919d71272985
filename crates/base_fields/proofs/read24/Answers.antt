-- `base_fields::read24` meets its contract: in each byte order, the three bytes joined are the number that `number` reads there.
-- Assumes nothing.
use mathlib.Core.Path.{◌≡◌, sym, ◌∙◌}
use Rattle.base_fields.specs.declared.ByteOrder.TheVariants.{Big, Little}
use Rattle.base_fields.proofs.Numbers.{big_3, little_3}
use Rattle.base_fields.proofs.read24.Goals as goal

pub returns-in-Big : goal.returns-in-Big
returns-in-Big c =
    let t : c.args.order ≡ Big = c.in-Big.is in
    (rw t (c.join3.ensures.0 ∙ sym (big_3 c.args.s.now c.args.at c.requires)), c.join3.ensures.1)

pub returns-in-Little : goal.returns-in-Little
returns-in-Little c =
    let t : c.args.order ≡ Little = c.in-Little.is in
    (rw t (c.join3-in-Little.ensures.0 ∙ sym (little_3 c.args.s.now c.args.at c.requires)), c.join3-in-Little.ensures.1)
