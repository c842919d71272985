-- The object where there is room for it, else refusal 21 with its length. Assumes nothing.
use Rattle.write_object.proofs.Own.{own_small, own_headings_small, at_is, long_image, own_written, own_counted}
use Rattle.elf_readers.specs.Readers.{section_count}
use Rattle.base_answers.proofs.Answered.{room_there, room_short}
use native.Mathlib.Omega.{arith}
use Rattle.write_object.proofs.place_object.Goals as goal

pub aligned_to-at-requires : goal.aligned_to-at-requires
aligned_to-at-requires c =
    let a = c.args in
    omega (arith, c.own_end-end.ensures, own_small a.order a.file.now c.requires.0 (section_count a.order a.file.now) (omega arith))

pub overflow_add-long : goal.overflow_add-long
overflow_add-long c =
    let a = c.args in
    let at = at_is a.order a.file.now c.requires.1 _ _ _ c.own_end-end.ensures c.aligned_to-at.ensures c.section_count-many.ensures.0 in
    omega (arith, at, own_headings_small a.order a.file.now c.requires.0, c.section_count-many.ensures.1)

pub write_own-requires : goal.write_own-requires
write_own-requires c =
    let a = c.args in
    let p = c.requires in
    let n = c.section_count-many.ensures in
    let at = at_is a.order a.file.now p.1 _ _ _ c.own_end-end.ensures c.aligned_to-at.ensures n.0 in
    let long = long_image a.order a.file.now p.1 _ _ _ c.own_end-end.ensures c.aligned_to-at.ensures n.0 in
    (p.0, p.1, c.own_end-end.ensures, at, n.0, n.1, omega (arith, long, c.if-long-out.true))

pub returns-then-long-out : goal.returns-then-long-out
returns-then-long-out c =
    let a = c.args in
    let w = own_written a.order a.file.now c.requires.1 _ _ _ c.own_end-end.ensures c.aligned_to-at.ensures c.section_count-many.ensures.0 _ _ c.write_own.auto.out c.write_own.ensures in
    room_there _ _ _ _ _ w c.if-long-out.true c.result.ensures

pub returns : goal.returns
returns c =
    let a = c.args in
    let l = c.if-long-out.false in
    let w = own_counted a.order a.file.now c.requires.1 _ _ _ c.own_end-end.ensures c.aligned_to-at.ensures c.section_count-many.ensures.0 a.out.now (omega (arith, l)) in
    room_short _ _ _ _ _ w (omega (arith, l)) c.refused.ensures
