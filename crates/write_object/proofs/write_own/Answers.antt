-- The four writes stand behind one another. Assumes nothing.
use Rattle.write_object.proofs.Own.{own_headings_small, own_headings_low, own_room, own_put}
use native.Mathlib.Omega.{arith}
use Rattle.write_object.proofs.write_own.Goals as goal

pub overflow_cast-at : goal.overflow_cast-at
overflow_cast-at c =
    let a = c.args in
    record { fits = omega (arith, c.requires.3, own_headings_small a.order a.file.now c.requires.0) }

pub overflow_cast-many : goal.overflow_cast-many
overflow_cast-many c = record { fits = omega (arith, c.requires.5) }

pub write_front-requires : goal.write_front-requires
write_front-requires c =
    let a = c.args in
    (c.requires.0.headed.whole, (own_room a.order a.file.now _ c.requires.6).0, c.requires.5)

pub write_own_sections-requires : goal.write_own_sections-requires
write_own_sections-requires c =
    let a = c.args in
    let p = c.requires in
    (p.0, p.1, omega (arith, (own_room a.order a.file.now _ p.6).1, c.write_front.auto.out))

pub write_gap-requires : goal.write_gap-requires
write_gap-requires c =
    let a = c.args in
    let p = c.requires in
    let r = own_room a.order a.file.now _ p.6 in
    (omega (arith, p.2, p.3, own_headings_low a.order a.file.now), omega (arith, p.3, r.2, c.write_front.auto.out, c.write_own_sections.auto.out))

pub write_own_headings-requires : goal.write_own_headings-requires
write_own_headings-requires c =
    let a = c.args in
    let p = c.requires in
    let r = own_room a.order a.file.now _ p.6 in
    (p.0, omega (arith, p.3, r.2, c.write_front.auto.out, c.write_own_sections.auto.out, c.write_gap.auto.out))

pub returns : goal.returns
returns c =
    let a = c.args in
    let p = c.requires in
    own_put a.order a.file.now p.1 a.out.now _ _ _ _ a.end a.at a.many p.2 p.3 p.4 p.6 c.write_front.ensures c.write_own_sections.ensures c.write_gap.ensures c.write_own_headings.ensures
