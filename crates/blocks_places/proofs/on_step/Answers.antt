-- `blocks_places::on_step` meets its contract, field by field; a size up to the file limit leaves room for the sum. Assumes nothing.
use Rattle.blocks_places.specs.Table.{on_step}
use Prim.Native.Nat.{◌+◌}
use Rattle.blocks_places.proofs.on_step.Goals as goal

pub returns : goal.returns
unfolding on_step
returns c =
    let a = c.args in
    λ k. record {
      misplaced = c.is_low-misplaced.ensures k;
      misaligned = c.is_odd-misaligned.ensures k;
      size = a.size;
      place = a.place;
      end = a.place + a.size;
      on = a.on;
    }
