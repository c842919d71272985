-- `blocks_values::size_in` meets its contract: the size is the label of what stands behind the label. Assumes nothing.
use Rattle.blocks_values.specs.Values.{label_in}
use Rattle.blocks_values.proofs.Values.{size_is}
use mathlib.Core.Path.{sym, ap, ◌∙◌}
use Rattle.blocks_values.proofs.size_in.Goals as goal

pub returns : goal.returns
returns c = c.label_in.ensures ∙ ap label_in c.after_label.ensures ∙ sym (size_is c.args.v.now)
