-- One read, at the place of the head of the hash's bucket. Assumes nothing.
use Rattle.base_fields.specs.declared.ByteOrder.TheVariants.{Big}
use Rattle.base_fields.specs.Numbers.{number}
use Rattle.base_index.specs.Index.{head_in}
use Rattle.std.proofs.Common.{ap, ◌∙◌, rules}
use Rattle.base_index.proofs.head_of.Goals as goal

pub returns : goal.returns
unfolding head_in
returns c =
    let a = c.args in (
      c.read16.ensures.0
          ∙ ap (number Big 2 a.table.now) c.head_place.ensures
          ∙ ap (head_in a.cap a.table.now) c.bucket_of.ensures.0,
      search rules,
    )
