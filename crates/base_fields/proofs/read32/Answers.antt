-- `base_fields::read32` meets its contract: in each byte order, the four bytes joined are the number that `number` reads there.
-- Assumes nothing.
use mathlib.Core.Path.{◌≡◌, sym, ◌∙◌}
use Rattle.base_fields.specs.declared.ByteOrder.TheVariants.{Big, Little}
use Rattle.base_fields.proofs.Numbers.{big_4, little_4}
use Rattle.base_fields.proofs.read32.Goals as goal

pub returns-in-Big : goal.returns-in-Big
returns-in-Big c =
    let t : c.args.order ≡ Big = c.in-Big.is in
    rw t (c.join4.ensures ∙ sym (big_4 c.args.s.now c.args.at c.requires))

pub returns-in-Little : goal.returns-in-Little
returns-in-Little c =
    let t : c.args.order ≡ Little = c.in-Little.is in
    rw t (c.join4-in-Little.ensures ∙ sym (little_4 c.args.s.now c.args.at c.requires))
