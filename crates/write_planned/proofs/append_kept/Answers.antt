-- C's entries of a section that stays; none of another. Assumes nothing.
use native.Mathlib.Omega.{arith}
use Rattle.base_lists.proofs.Written.{written_none, written_as}
use Rattle.write_planned.proofs.Tables.{kept_asked, kept_here, kept_none}
use Rattle.write_planned.proofs.append_kept.Goals as goal

pub append_entries-requires : goal.append_entries-requires
append_entries-requires c =
    let v-args = c.args in
    let v-compiled-side = c.compiled_side-side in
    let v-if1 = c.if-i-carry in
    let v-pre = c.requires in
    let w = kept_asked v-args.compiled.now v-args.stage v-args.carry v-args.rows.now v-args.late.now v-args.numbers.now v-args.i _
    v-compiled-side.ensures v-if1.true v-pre.0 in
    (w.0, w.1, w.2, w.3, omega (arith, v-pre.1))

pub returns-then-i-carry : goal.returns-then-i-carry
returns-then-i-carry c =
    let v-args = c.args in
    let v-compiled-side = c.compiled_side-side in
    let v-if1 = c.if-i-carry in
    let v-append-entries = c.append_entries in (
      written_as _ _ _ _ _ _ (kept_here v-args.compiled.now v-args.stage v-args.carry v-args.rows.now v-args.late.now v-args.numbers.now
          v-args.i _ v-compiled-side.ensures v-if1.true) v-append-entries.ensures.0,
      v-append-entries.ensures.1,
    )

pub returns : goal.returns
returns c =
    let v-args = c.args in
    let v-if1 = c.if-i-carry in (
      written_as _ _ _ _ _ _ (kept_none v-args.compiled.now v-args.stage v-args.carry v-args.rows.now v-args.late.now v-args.numbers.now
          v-args.i v-if1.false) (written_none _ _),
      omega arith,
    )
