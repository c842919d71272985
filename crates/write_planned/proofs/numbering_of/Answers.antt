-- What the rows were filled by, and the counts. Assumes nothing.
use Rattle.write_planned.proofs.Own.{numbering_made}
use Rattle.write_planned.proofs.numbering_of.Goals as goal

pub returns : goal.returns
returns c =
    let v-args = c.args in
    let v-filling-of = c.filling_of-filling in
    numbering_made v-args.x _ v-filling-of.ensures
