-- Entry 0 has its fields and its name tested; any other entry passes. Assumes nothing.
use Rattle.elf_symbols.proofs.Symbols.{name_read}
use Rattle.elf_symbol_faults.proofs.Faults.{null_there, null_other}
use mathlib.Core.Path.{◌∙◌}
use Rattle.elf_symbol_faults.proofs.is_null_symbol_sound.Goals as goal

pub returns-then-k-eq0 : goal.returns-then-k-eq0
returns-then-k-eq0 c =
    let a = c.args in
    let s = c.symbol_at-s in
    let name = c.name_at-name.ensures ∙ name_read a.order a.file.now a.k _ _ s.ensures c.requires.0.names in
    c.both.ensures ∙ null_there a.order a.file.now a.k _ _ _ c.if-k-eq0.true s.ensures name c.is_zero_entry.ensures

pub returns : goal.returns
returns c =
    let a = c.args in
    null_other a.order a.file.now a.k c.if-k-eq0.false
