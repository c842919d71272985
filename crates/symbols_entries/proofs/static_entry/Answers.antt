-- The symbol of the static that the row tells. Assumes nothing.
use Rattle.statics_table.specs.declared.Static.{Static}
use Rattle.statics_symbols.specs.Entries.{symbol_of_static}
use native.Mathlib.Omega.{arith}
use mathlib.Core.Path.{ap, ◌∙◌}
use Rattle.symbols_entries.proofs.static_entry.Goals as goal

pub static_symbol-requires : goal.static_symbol-requires
static_symbol-requires c =
    let e = ap (λ (x : Static). x.offset) c.read.ensures in
    omega (arith, e, c.requires.2)

pub returns : goal.returns
returns c =
    let a = c.args in
    c.static_symbol.ensures ∙ ap (symbol_of_static a.section a.mode a.base) c.read.ensures
