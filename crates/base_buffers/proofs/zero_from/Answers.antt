-- The part from `at` on is zeroed and put back; what stands before it is kept. Assumes nothing.
use Rattle.base_buffers.proofs.Buffers.{part_zeroed}
use Prim.Native.Nat.{zero, ◌-◌}
use mathlib.Core.Path.{refl}
use lib.ListN.{length}
use Rattle.base_buffers.proofs.zero_from.Goals as goal

pub returns : goal.returns
returns c =
    let a = c.args in
    part_zeroed a.s.now c.zero.new.s a.at (length a.s.now - a.at) c.requires refl c.zero.ensures
