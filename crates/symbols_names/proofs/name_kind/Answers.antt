-- The counts say whose the id is, and with it the name. Assumes nothing.
use Rattle.symbols_names.specs.Names.{kind_of}
use Rattle.symbols_names.proofs.Names.{rows_held, own_count, other_count, name_own, name_other, name_static}
use native.Mathlib.Omega.{arith}
use mathlib.Core.Path.{ap, ◌∙◌}
use Rattle.symbols_names.proofs.name_kind.Goals as goal

pub symbol_kind-requires : goal.symbol_kind-requires
symbol_kind-requires c =
    let q = c.requires in
    (q.0.compiled, omega (arith, c.if-id-first.true, own_count _ _ _ _ _ q.0))

pub returns-then-id-first : goal.returns-then-id-first
returns-then-id-first c =
    c.symbol_kind.ensures ∙ ap kind_of (name_own _ _ _ _ _ c.requires.0 c.args.id c.if-id-first.true)

pub first_static-behind-requires : goal.first_static-behind-requires
first_static-behind-requires c =
    (rows_held _ _ _ _ _ c.requires.0).symbols

pub symbol_kind-requires-then-id-behind : goal.symbol_kind-requires-then-id-behind
symbol_kind-requires-then-id-behind c =
    let q = c.requires in
    (q.0.assembled, omega (arith, c.if-id-behind.true, c.if-id-first.false, c.first_static-behind.ensures, other_count _ _ _ _ _ q.0))

pub returns-then-id-behind : goal.returns-then-id-behind
returns-then-id-behind c =
    c.symbol_kind-then-id-behind.ensures ∙ ap kind_of (name_other _ _ _ _ _ c.requires.0 c.args.id c.if-id-first.false (omega (arith, c.if-id-behind.true, c.first_static-behind.ensures)))

pub read-requires : goal.read-requires
read-requires c =
    let h = rows_held _ _ _ _ _ c.requires.0 in
    let f = c.first_static-behind.ensures in
    (omega (arith, c.requires.1, f, c.if-id-behind.false, h.long), omega (arith, c.requires.1, f, c.if-id-behind.false, h.few))

pub returns : goal.returns
returns c =
    let f = c.first_static-behind.ensures in
    c.static_kind.ensures
    ∙ rw (c.read.ensures, f) (ap kind_of (name_static _ _ _ _ _ c.requires.0 c.args.id (omega (arith, f, c.if-id-behind.false)) c.requires.1))
