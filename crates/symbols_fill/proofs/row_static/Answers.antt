-- Each field is its call's answer. Assumes nothing.
use Rattle.symbols_holders.specs.of_symbols_names.Names.{kind_of}
use Rattle.statics_table.specs.declared.Static.{Static}
use Rattle.statics_table.specs.Statics.{working_name}
use Rattle.symbols_fill.specs.Fill.{row_static}
use Rattle.symbols_fill.proofs.Origins.{row_taken, taken_fits}
use mathlib.Core.Path.{refl, ap, ◌∙◌}
use Rattle.symbols_fill.proofs.row_static.Goals as goal

pub returns : goal.returns
unfolding row_static
returns c =
    let a = c.args in
    let p = c.place_static.ensures in
    let kind = c.static_kind-kind.ensures ∙ ap (λ (s : Static). kind_of (working_name a.compiled.now s)) c.read.ensures in
    (row_taken _ _ _ _ _ _ refl c.taken_row.ensures p.0 kind, taken_fits _ _ _ c.taken_row.ensures p.1)
