-- `late_rodata::write_run_bytes` meets its contract: each kind of run names its source. Assumes nothing.
use Rattle.late_rodata.proofs.Writing.{kept_fits, kept_room, kept_wrote, late_fits, late_room, late_wrote, zeros_room, zeros_wrote}
use native.Mathlib.Omega.{arith}
use Rattle.late_rodata.proofs.write_run_bytes.Goals as goal

pub overflow_add-k : goal.overflow_add-k
overflow_add-k c =
    let a = c.args in
    omega (arith, kept_fits a.rodata.now a.words.now a.k a.at a.run c.in-Kept.size c.in-Kept.is c.requires.0)

pub slice_bounds-write_bytes-end : goal.slice_bounds-write_bytes-end
slice_bounds-write_bytes-end c =
    let a = c.args in
    omega (arith, kept_fits a.rodata.now a.words.now a.k a.at a.run c.in-Kept.size c.in-Kept.is c.requires.0)

pub write_bytes-requires : goal.write_bytes-requires
write_bytes-requires c =
    let a = c.args in
    let h = kept_fits a.rodata.now a.words.now a.k a.at a.run c.in-Kept.size c.in-Kept.is c.requires.0 in
    let g = kept_room a.rodata.now a.words.now a.k a.at a.run c.in-Kept.size c.in-Kept.is _ c.requires.1 in
    omega (arith, h, g)

pub overflow_add-from : goal.overflow_add-from
overflow_add-from c =
    let a = c.args in
    omega (arith, late_fits a.rodata.now a.words.now a.k a.at a.run c.in-Late.from c.in-Late.size c.in-Late.is c.requires.0)

pub slice_bounds-write_bytes-end-in-Late : goal.slice_bounds-write_bytes-end-in-Late
slice_bounds-write_bytes-end-in-Late c =
    let a = c.args in
    omega (arith, late_fits a.rodata.now a.words.now a.k a.at a.run c.in-Late.from c.in-Late.size c.in-Late.is c.requires.0)

pub write_bytes-requires-in-Late : goal.write_bytes-requires-in-Late
write_bytes-requires-in-Late c =
    let a = c.args in
    let h = late_fits a.rodata.now a.words.now a.k a.at a.run c.in-Late.from c.in-Late.size c.in-Late.is c.requires.0 in
    let g = late_room a.rodata.now a.words.now a.k a.at a.run c.in-Late.from c.in-Late.size c.in-Late.is _ c.requires.1 in
    omega (arith, h, g)

pub write_zeros-requires : goal.write_zeros-requires
write_zeros-requires c =
    let a = c.args in
    zeros_room a.rodata.now a.words.now a.k a.at a.run c.in-Zeros.size c.in-Zeros.is _ c.requires.1

pub returns-in-Kept : goal.returns-in-Kept
returns-in-Kept c =
    let a = c.args in
    kept_wrote a.rodata.now a.words.now a.k a.at a.run c.in-Kept.size c.in-Kept.is a.out.now _ c.write_bytes.ensures

pub returns-in-Late : goal.returns-in-Late
returns-in-Late c =
    let a = c.args in
    late_wrote a.rodata.now a.words.now a.k a.at a.run c.in-Late.from c.in-Late.size c.in-Late.is a.out.now _ c.write_bytes-in-Late.ensures

pub returns-in-Zeros : goal.returns-in-Zeros
returns-in-Zeros c =
    let a = c.args in
    zeros_wrote a.rodata.now a.words.now a.k a.at a.run c.in-Zeros.size c.in-Zeros.is a.out.now _ c.write_zeros.ensures
