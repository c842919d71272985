-- A's tables that join a section bring their entries. Assumes nothing.
use mathlib.Core.Path.{refl}
use native.Mathlib.Omega.{arith}
use Rattle.base_lists.proofs.Written.{written_as}
use Rattle.write_planned.proofs.Tables.{joined_asked, joined_here}
use Rattle.write_planned.proofs.append_others.Goals as goal

pub append_joined-requires : goal.append_joined-requires
append_joined-requires c =
    let v-args = c.args in
    let v-assembled-side = c.assembled_side-side in
    let v-pre = c.requires in
    let w = joined_asked v-args.assembled.now v-args.stage v-args.carry v-args.rows.now v-args.late.now v-args.numbers.now v-args.homes.now _ v-assembled-side.ensures v-pre.0 in
    (w.0, w.1, w.2, omega (arith, v-pre.1))

pub returns : goal.returns
returns c =
    let v-args = c.args in
    let v-assembled-side = c.assembled_side-side in
    let v-append-joined = c.append_joined in
    let v-pre = c.requires in (
      written_as _ _ _ _ _ _ (joined_here v-args.assembled.now v-args.stage v-args.carry v-args.rows.now v-args.late.now v-args.numbers.now
          v-args.homes.now _ v-assembled-side.ensures v-args.i _ refl) v-append-joined.ensures.0,
      omega (arith, v-append-joined.ensures.1, v-pre.0.tables.few),
    )
