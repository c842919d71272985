-- The test says whether the id is a static's, whose row has where its name starts. Assumes nothing.
use Rattle.symbols_names.proofs.Names.{rows_held, stored_static}
use native.Mathlib.Omega.{arith}
use mathlib.Core.Path.{◌∙◌}
use Rattle.symbols_names.proofs.stored_name.Goals as goal

pub first_static-first-requires : goal.first_static-first-requires
first_static-first-requires c = (rows_held _ _ _ _ _ c.requires.0).symbols

pub returns-then-id-first : goal.returns-then-id-first
returns-then-id-first c = c.symbol_name.ensures

pub returns : goal.returns
returns c =
    let f = c.first_static-first.ensures in
    c.name_at.ensures ∙ stored_static _ _ _ _ _ c.requires.0 c.args.id _ _ f c.if-id-first.false (omega (arith, f, c.requires.1)) c.read-s.ensures
