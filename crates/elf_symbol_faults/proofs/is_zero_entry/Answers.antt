-- The six tests are joined from the last to the first, as `zero_entry` nests them. Assumes nothing.
use Rattle.elf_symbol_faults.proofs.Faults.{zero_read}
use Rattle.elf_symbol_faults.proofs.is_zero_entry.Goals as goal

pub returns : goal.returns
returns c =
    zero_read c.args.s _ _ _ _ _ c.both-r.ensures c.both-r-2.ensures c.both-r-3.ensures c.both-r-4.ensures c.both.ensures
