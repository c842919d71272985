-- A number of the table fits. Assumes nothing.
use native.Mathlib.Omega.{arith}
use Rattle.carry_entries.proofs.Goals.{info_small, info_read}
use Rattle.carry_entries.proofs.carried_info.Goals as goal

pub relocation_info-requires : goal.relocation_info-requires
relocation_info-requires c =
    let a = c.args in
    (info_small a.side a.numbers.now a.info _ c.number_of-symbol.ensures c.requires, omega (arith, c.kind_of.ensures))

pub returns : goal.returns
returns c =
    let a = c.args in
    info_read a.side a.numbers.now a.info _ c.number_of-symbol.ensures _ c.kind_of.ensures _ c.relocation_info.ensures
