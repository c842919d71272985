-- What is in hand is what the section is written by. Assumes nothing.
use native.Mathlib.Omega.{arith}
use Rattle.base_lists.proofs.Written.{written_as}
use Rattle.write_planned.proofs.Own.{section_asked, section_code, section_here}
use Rattle.write_planned.proofs.append_section.Goals as goal

pub part-blocks-requires : goal.part-blocks-requires
part-blocks-requires c =
    let v-pre = c.requires in
    omega (arith, v-pre.0.buffers.table_long)

pub part-lines-requires : goal.part-lines-requires
part-lines-requires c =
    let v-pre = c.requires in
    omega (arith, v-pre.0.buffers.places_long)

pub part-late-requires : goal.part-late-requires
part-late-requires c =
    let v-pre = c.requires in
    omega (arith, v-pre.0.buffers.steps_long_lem)

pub append_copied-requires : goal.append_copied-requires
append_copied-requires c =
    let v-args =
    c.args in
    let v-pre =
    c.requires in
    let v-part = c.part-blocks in
    let v-part2 = c.part-lines in
    let v-part3 = c.part-late in
    let v-code-of = c.code_of-code in
    let s = section_asked v-args.compiled.now v-args.assembled.now v-args.file.now v-args.path.now v-args.x v-args.table.now v-args.places.now v-args.steps.now v-args.index.now v-pre.0 _ _ _ v-part.ensures v-part2.ensures v-part3.ensures in
    let d = section_code v-args.compiled.now v-args.assembled.now v-args.file.now v-args.path.now v-args.x v-args.table.now v-args.places.now v-args.steps.now v-args.index.now v-pre.0 _ _ _ v-part.ensures v-part2.ensures v-part3.ensures v-args.i _
    v-code-of.ensures.0 in (
      s.0,
      s.1,
      v-code-of.ensures.1,
      omega
          (arith, d, v-pre.1),
      omega (arith, v-pre.2),
    )

pub returns : goal.returns
returns c =
    let v-args =
    c.args in
    let v-pre =
    c.requires in
    let v-part = c.part-blocks in
    let v-part2 = c.part-lines in
    let v-part3 = c.part-late in
    let v-code-of = c.code_of-code in
    let v-append-copied = c.append_copied in (
      written_as _ _ _ _ _ _ (section_here v-args.compiled.now v-args.assembled.now v-args.file.now v-args.path.now v-args.x v-args.table.now
          v-args.places.now v-args.steps.now v-args.index.now v-pre.0 _ _ _ v-part.ensures v-part2.ensures v-part3.ensures v-args.i _
          v-code-of.ensures.0) v-append-copied.ensures.0,
      omega (arith, v-append-copied.ensures.1),
    )
