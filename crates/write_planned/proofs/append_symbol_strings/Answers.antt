-- The statics in hand are C's. Assumes nothing.
use native.Mathlib.Omega.{arith}
use Rattle.base_lists.proofs.Written.{written_as}
use Rattle.write_planned.proofs.Own.{strings_asked, strings_here}
use Rattle.write_planned.proofs.append_symbol_strings.Goals as goal

pub part-statics-requires : goal.part-statics-requires
part-statics-requires c =
    let v-pre = c.requires in
    omega (arith, v-pre.0.buffers.steps_long_lem)

pub append_strings-requires : goal.append_strings-requires
append_strings-requires c =
    let v-args = c.args in
    let v-pre = c.requires in
    let v-part = c.part-statics in
    let s = strings_asked v-args.compiled.now v-args.assembled.now v-args.file.now v-args.path.now v-args.x v-args.table.now v-args.places.now v-args.steps.now v-args.index.now v-pre.0 _ v-part.ensures in
    (v-pre.0.read.read.compiled, v-pre.0.read.read.assembled, v-pre.1, v-pre.0.short, v-pre.0.read.read.compiled_small, v-pre.0.read.read.assembled_small, s.0, s.1)

pub returns : goal.returns
returns c =
    let v-args =
    c.args in
    let v-pre =
    c.requires in
    let v-part = c.part-statics in
    let v-append-strings = c.append_strings in (
      written_as _ _ _ _ _ _ (strings_here v-args.compiled.now v-args.assembled.now v-args.file.now v-args.path.now v-args.x v-args.table.now
          v-args.places.now v-args.steps.now v-args.index.now v-pre.0 _ v-part.ensures) v-append-strings.ensures.0,
      v-append-strings.ensures.1,
    )
