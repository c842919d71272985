-- An index below the count passes; any other has both bounds of the reserved ones tested. Assumes nothing.
use Rattle.elf_symbol_faults.proofs.Faults.{index_there, index_reserved}
use mathlib.Core.Path.{◌∙◌}
use Rattle.elf_symbol_faults.proofs.is_index_sound.Goals as goal

pub returns-then-x-count : goal.returns-then-x-count
returns-then-x-count c = index_there c.args.count c.args.x c.if-x-count.true

pub returns : goal.returns
returns c =
    let a = c.args in
    c.both.ensures ∙ index_reserved a.count a.x c.if-x-count.false
