-- The object's strings are in hand, and the entry has where the name starts. Assumes nothing.
use Rattle.elf_symbols.proofs.Symbols.{names_up, names_inside, names_are}
use Rattle.symbols_names.specs.Names.{kind_of}
use Rattle.symbols_names.proofs.Names.{name_read}
use mathlib.Core.Path.{ap, ◌∙◌}
use Rattle.symbols_names.proofs.symbol_kind.Goals as goal

pub strings_of-strings-requires : goal.strings_of-strings-requires
strings_of-strings-requires c =
    let q = c.requires.0 in
    (names_up _ _ _ q, names_inside _ _ _ q)

pub returns : goal.returns
returns c =
    let q = c.requires in
    c.kind_at.ensures ∙ ap kind_of (name_read _ _ _ _ _ (names_are _ _ _ q.0 _ c.strings_of-strings.ensures) c.name_start.ensures)
