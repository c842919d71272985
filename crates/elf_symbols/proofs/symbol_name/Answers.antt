-- The entry gives the place of the name in the strings in hand. Assumes nothing.
use Rattle.elf_symbols.proofs.Symbols.{name_read}
use mathlib.Core.Path.{◌∙◌}
use Rattle.elf_symbols.proofs.symbol_name.Goals as goal

pub returns : goal.returns
returns c =
    let a = c.args in
    c.name_at.ensures ∙ name_read a.order a.file.now a.k _ _ c.symbol_at-s.ensures c.requires.0.names
