-- The entry gives the place of the name in the strings in hand, and its front is compared there. Assumes nothing.
use Rattle.base_lists.specs.Strings.{prefixed}
use Rattle.base_scope.specs.Text.{text}
use Rattle.elf_symbols.proofs.Symbols.{name_read}
use Rattle.symbols_taken.specs.Taken.{is_helper}
use mathlib.Core.Path.{ap, ◌∙◌}
use Rattle.symbols_taken.proofs.is_helper.Goals as goal

pub returns : goal.returns
unfolding is_helper
returns c =
    let a = c.args in
    c.begins_helper.ensures
    ∙ ap (prefixed (text "_asmpp_")) (name_read a.order a.file.now a.k _ _ c.symbol_at-entry.ensures c.requires.0.names)
