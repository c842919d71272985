-- The entry gives the place of the name in the strings in hand. Assumes nothing.
use Rattle.base_index.specs.Index.{hash_of}
use Rattle.elf_symbols.proofs.Symbols.{name_read}
use mathlib.Core.Path.{ap, ◌∙◌}
use Rattle.elf_index.proofs.name_hash.Goals as goal

pub returns : goal.returns
returns c =
    let a = c.args in
    c.name_hash.ensures ∙ ap hash_of (name_read a.order a.file.now a.k _ _ c.symbol_at-s.ensures c.requires.0.names)
