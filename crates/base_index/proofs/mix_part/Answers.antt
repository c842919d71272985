-- The sum is turned by as many bytes as there are. Assumes nothing.
use Rattle.std.proofs.Common.{◌*◌, ◌^◌, ◌∙◌}
use Rattle.base_index.proofs.Hashes.{same_rest}
use Rattle.base_index.proofs.mix_part.Goals as goal

pub turn-requires : goal.turn-requires
turn-requires c = c.requires

pub returns : goal.returns
returns c =
    let a = c.args in
    c.plus.ensures ∙ same_rest a.part c.turn.result (256 ^ a.n * a.h) c.turn.ensures
