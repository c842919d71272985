-- `blocks_values::is_label_sound` meets its contract: the two tests are those of `label_sound`. Assumes nothing.
use Rattle.blocks_values.specs.Values.{label_sound}
use mathlib.Core.Bool.{◌&&◌}
use mathlib.Core.Path.{◌∙◌}
use lib.Dec.{ltb, eqb}
use lib.ListN.{length}
use Rattle.blocks_values.proofs.is_label_sound.Goals as goal

pub returns : goal.returns
unfolding label_sound
returns c =
    let v = c.args.v.now in
    c.both.ensures ∙ (λ k. ltb 0 (length v) && eqb (c.space_in.ensures k) (length v))
