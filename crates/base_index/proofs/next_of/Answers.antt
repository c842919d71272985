-- One read, at the place of the item's next. Assumes nothing.
use Rattle.base_fields.specs.declared.ByteOrder.TheVariants.{Big}
use Rattle.base_fields.specs.Numbers.{number}
use Rattle.base_index.specs.Index.{next_in}
use Rattle.std.proofs.Common.{ap, ◌∙◌, rules}
use Rattle.base_index.proofs.next_of.Goals as goal

pub returns : goal.returns
unfolding next_in
returns c = (c.read16.ensures.0 ∙ ap (number Big 2 c.args.table.now) c.next_place.ensures, search rules)
