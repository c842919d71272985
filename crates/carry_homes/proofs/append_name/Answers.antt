-- What the name begins with, then that of the code. Assumes nothing.
use native.Mathlib.Omega.{arith}
use Rattle.carry_homes.proofs.Names.{name_written_lem}
use Rattle.carry_homes.proofs.append_name.Goals as goal

pub append_code-requires : goal.append_code-requires
append_code-requires c =
    let pre = c.requires in
    let append-kind = c.append_kind-end in
    (omega (arith, pre.0, append-kind.ensures.1), pre.1, pre.2)

pub returns : goal.returns
returns c =
    let args = c.args in
    let append-kind = c.append_kind-end in
    let append-code = c.append_code in
    name_written_lem args.out.now args.at args.rela args.code _ _ _ _ append-kind.ensures.0 append-code.ensures
