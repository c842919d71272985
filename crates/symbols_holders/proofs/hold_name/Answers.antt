-- The number that is written is the holder. Assumes nothing.
use Prim.Native.Nat.{◌*◌}
use mathlib.Core.Path.{ap, ◌∙◌}
use native.Mathlib.Omega.{arith}
use Rattle.base_index.proofs.Table.{with_number}
use Rattle.symbols_holders.proofs.hold_name.Goals as goal

pub write16-requires : goal.write16-requires
write16-requires c =
    (c.requires.1, omega (arith, c.holder_at-holder.ensures.1, c.requires.0.low, c.requires.0.index.indexed.many))

pub returns : goal.returns
returns c =
    let a = c.args in
    c.write16.ensures ∙ ap (with_number 2 a.holders.now (2 * a.p)) c.holder_at-holder.ensures.0
