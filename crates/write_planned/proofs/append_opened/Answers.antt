-- The homes in hand say the names. Assumes nothing.
use native.Mathlib.Omega.{arith}
use Rattle.base_lists.proofs.Written.{written_as}
use Rattle.write_planned.proofs.Planned.{opened_below, names_asked, names_here}
use Rattle.write_planned.proofs.append_opened.Goals as goal

pub part-homes-requires : goal.part-homes-requires
part-homes-requires c =
    let v-pre = c.requires in
    omega (arith, v-pre.0.buffers.places_long)

pub append_new_names-requires : goal.append_new_names-requires
append_new_names-requires c =
    let v-pre = c.requires in
    let v-args = c.args in
    let v-part = c.part-homes in (
      v-pre.0.read.read.assembled,
      names_asked v-args.compiled.now v-args.assembled.now v-args.file.now v-args.path.now v-args.x v-args.table.now v-args.places.now v-args.steps.now v-args.index.now v-pre.0 _ v-part.ensures v-args.many v-pre.1,
      omega (arith, v-pre.2),
    )

pub returns : goal.returns
returns c =
    let v-args =
    c.args in
    let v-pre =
    c.requires in
    let v-part = c.part-homes in
    let v-append-new-names = c.append_new_names in (
      written_as _ _ _ _ _ _ (names_here v-args.compiled.now v-args.assembled.now v-args.file.now v-args.path.now v-args.x v-args.table.now
          v-args.places.now v-args.steps.now v-args.index.now v-pre.0 _ v-part.ensures v-args.many v-pre.1) v-append-new-names.ensures.0,
      omega (
        arith,
        v-append-new-names.ensures.1,
        v-pre.1,
        opened_below v-args.compiled.now v-args.assembled.now v-args.file.now v-args.path.now
            v-args.x v-args.table.now v-args.places.now v-args.steps.now v-args.index.now v-pre.0,
      ),
    )
