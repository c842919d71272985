-- The tables in hand are those of the symbol merge. Assumes nothing.
use native.Mathlib.Omega.{arith}
use Rattle.base_lists.proofs.Written.{written_as}
use Rattle.write_planned.proofs.Own.{symbols_asked, symbols_here}
use Rattle.write_planned.proofs.append_numbered.Goals as goal

pub part-statics-requires : goal.part-statics-requires
part-statics-requires c =
    let v-pre = c.requires in
    omega (arith, v-pre.0.buffers.steps_long_lem)

pub part-marks-requires : goal.part-marks-requires
part-marks-requires c =
    let v-pre = c.requires in
    omega (arith, v-pre.0.buffers.steps_long_lem)

pub part-rows-requires : goal.part-rows-requires
part-rows-requires c =
    let v-pre = c.requires in
    omega (arith, v-pre.0.buffers.table_long)

pub part-list-requires : goal.part-list-requires
part-list-requires c =
    let v-pre = c.requires in
    omega (arith, v-pre.0.buffers.steps_long_lem)

pub part-order-requires : goal.part-order-requires
part-order-requires c =
    let v-pre = c.requires in
    omega (arith, v-pre.0.buffers.index_long_lem)

pub append_symbols-requires : goal.append_symbols-requires
append_symbols-requires c =
    let v-args = c.args in
    let v-pre = c.requires in
    let v-part = c.part-statics in
    let v-part2 = c.part-marks in
    let v-part3 = c.part-rows in
    let v-part4 = c.part-list in
    let v-part5 = c.part-order in
    let v-numbering-of = c.numbering_of-n in
    let s = symbols_asked v-args.compiled.now v-args.assembled.now v-args.file.now v-args.path.now v-args.x v-args.table.now v-args.places.now v-args.steps.now v-args.index.now v-pre.0 _ _ _ _ _ v-part.ensures v-part2.ensures v-part3.ensures v-part4.ensures
    v-part5.ensures _ v-numbering-of.ensures in
    (s.0, s.1, omega (arith, v-pre.1))

pub returns : goal.returns
returns c =
    let v-args =
    c.args in
    let v-pre =
    c.requires in
    let v-part = c.part-statics in
    let v-part2 = c.part-marks in
    let v-part3 = c.part-rows in
    let v-part4 = c.part-list in
    let v-part5 = c.part-order in
    let v-numbering-of = c.numbering_of-n in
    let v-append-symbols = c.append_symbols in (
      written_as _ _ _ _ _ _ (symbols_here v-args.compiled.now v-args.assembled.now v-args.file.now v-args.path.now v-args.x v-args.table.now
          v-args.places.now v-args.steps.now v-args.index.now v-pre.0 _ _ _ _ _ v-part.ensures v-part2.ensures v-part3.ensures v-part4.ensures
          v-part5.ensures _ v-numbering-of.ensures) v-append-symbols.ensures.0,
      omega (arith, v-append-symbols.ensures.2),
    )
