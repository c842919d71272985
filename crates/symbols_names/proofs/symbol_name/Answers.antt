-- Each object's strings are in hand, and the test says whose symbol it is. Assumes nothing.
use Rattle.elf_symbols.proofs.Symbols.{names_up, names_inside, names_are}
use Rattle.symbols_names.proofs.Names.{own_count, other_count, stored_own, stored_other}
use native.Mathlib.Omega.{arith}
use Rattle.symbols_names.proofs.symbol_name.Goals as goal

pub strings_of-c-requires : goal.strings_of-c-requires
strings_of-c-requires c =
    let q = c.requires.0.compiled in
    (names_up _ _ _ q, names_inside _ _ _ q)

pub strings_of-a-requires : goal.strings_of-a-requires
strings_of-a-requires c =
    let q = c.requires.0.assembled in
    (names_up _ _ _ q, names_inside _ _ _ q)

pub name_start-at-requires : goal.name_start-at-requires
name_start-at-requires c =
    let q = c.requires.0 in
    (q.compiled, omega (arith, c.if-id-first.true, own_count _ _ _ _ _ q))

pub returns-then-id-first : goal.returns-then-id-first
returns-then-id-first c =
    let q = c.requires.0 in
    let strings = names_are _ _ _ q.compiled _ c.strings_of-c.ensures in
    stored_own _ _ _ _ _ q c.args.id _ _ _ _ c.name_of.ensures strings c.name_start-at.ensures c.if-id-first.true

pub name_start-at-requires-2 : goal.name_start-at-requires-2
name_start-at-requires-2 c =
    let q = c.requires in
    (q.0.assembled, omega (arith, c.if-id-first.false, q.1, other_count _ _ _ _ _ q.0))

pub returns : goal.returns
returns c =
    let q = c.requires.0 in
    let strings = names_are _ _ _ q.assembled _ c.strings_of-a.ensures in
    stored_other _ _ _ _ _ q c.args.id _ _ _ _ c.name_of-2.ensures strings c.name_start-at-2.ensures c.if-id-first.false c.requires.1
