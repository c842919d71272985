-- `blocks_values::is_dummy_sound` meets its contract: the two tests are those of `dummy_sound`. Assumes nothing.
use Rattle.blocks_values.specs.Values.{dummy_sound}
use mathlib.Core.Bool.{◌&&◌}
use mathlib.Core.Path.{◌∙◌}
use lib.Dec.{eqb}
use lib.ListN.{length}
use Rattle.blocks_values.proofs.is_dummy_sound.Goals as goal

pub returns : goal.returns
unfolding dummy_sound
returns c =
    let v = c.args.v.now in
    c.both.ensures ∙ (λ k. eqb (length v) 8 && c.are_hex_digits.ensures k)
