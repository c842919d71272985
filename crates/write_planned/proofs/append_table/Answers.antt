-- The tables in hand are parts of the buffers. Assumes nothing.
use native.Mathlib.Omega.{arith}
use Rattle.base_lists.proofs.Written.{written_as}
use Rattle.write_planned.proofs.Tables.{kept_read, joined_read, table_is}
use Rattle.write_planned.proofs.append_table.Goals as goal

pub part-rows-requires : goal.part-rows-requires
part-rows-requires c =
    let v-pre = c.requires in
    omega (arith, v-pre.0.buffers.index_long_lem)

pub part-late-requires : goal.part-late-requires
part-late-requires c =
    let v-pre = c.requires in
    omega (arith, v-pre.0.buffers.steps_long_lem)

pub part-numbers-requires : goal.part-numbers-requires
part-numbers-requires c =
    let v-pre = c.requires in
    omega (arith, v-pre.0.buffers.index_long_lem)

pub part-homes-requires : goal.part-homes-requires
part-homes-requires c =
    let v-pre = c.requires in
    omega (arith, v-pre.0.buffers.places_long)

pub append_both-requires : goal.append_both-requires
append_both-requires c =
    let v-args = c.args in
    let v-pre = c.requires in
    let v-part = c.part-rows in
    let v-part2 = c.part-late in
    let v-part3 = c.part-numbers in
    let v-part4 = c.part-homes in
    let r = kept_read v-args.compiled.now v-args.assembled.now v-args.file.now v-args.path.now v-args.x v-args.table.now v-args.places.now v-args.steps.now v-args.index.now v-pre.0 _ _ _ _ v-part.ensures v-part2.ensures v-part3.ensures v-part4.ensures
    v-args.i v-pre.1 in
    let j = joined_read v-args.compiled.now v-args.assembled.now v-args.file.now v-args.path.now v-args.x v-args.table.now v-args.places.now v-args.steps.now v-args.index.now v-pre.0 _ _ _ _ v-part.ensures v-part2.ensures v-part3.ensures v-part4.ensures v-args.i in
    (r, j, v-pre.2)

pub returns : goal.returns
returns c =
    let v-args =
    c.args in
    let v-pre =
    c.requires in
    let v-part = c.part-rows in
    let v-part2 = c.part-late in
    let v-part3 = c.part-numbers in
    let v-part4 = c.part-homes in
    let v-append-both = c.append_both in (
      written_as _ _ _ _ _ _ (table_is v-args.compiled.now v-args.assembled.now v-args.file.now v-args.path.now v-args.x v-args.table.now
          v-args.places.now v-args.steps.now v-args.index.now v-pre.0 _ _ _ _ v-part.ensures v-part2.ensures v-part3.ensures v-part4.ensures
          v-args.i) v-append-both.ensures.0,
      v-append-both.ensures.1,
    )
