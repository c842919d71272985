-- A name with nothing behind it. Assumes nothing.
use Rattle.elf_symbols.specs.Symbols.{symbol_named}
use mathlib.Core.Path.{ap, ◌∙◌}
use mathlib.Core.List.{List, append-nil}
use Prim.Native.Nat.{ℕ}
use Rattle.elf_index.proofs.symbol_indexed.Goals as goal

pub returns : goal.returns
returns c =
    let a = c.args in
    c.symbol_joined.ensures ∙ ap (λ (l : List ℕ). symbol_named a.order a.file.now l) (append-nil a.name.now)
