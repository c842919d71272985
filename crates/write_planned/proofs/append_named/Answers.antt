-- Two texts in a row; what is in hand stays. Assumes nothing.
use native.Mathlib.Omega.{arith}
use Rattle.base_lists.proofs.Written.{written_then}
use Rattle.write_planned.proofs.Held.{held_still}
use Rattle.write_planned.proofs.append_named.Goals as goal

pub append_own-end-requires : goal.append_own-end-requires
append_own-end-requires c =
    let v-pre = c.requires in
    (v-pre.0, v-pre.1, v-pre.2)

pub append_added-requires : goal.append_added-requires
append_added-requires c =
    let v-args = c.args in
    let v-pre = c.requires in
    let v-append-own = c.append_own-end in (
      held_still v-args.compiled.now v-args.assembled.now v-args.file.now v-args.path.now v-args.x v-args.table.now v-args.places.now
          v-args.steps.now v-args.index.now v-pre.0 _ v-append-own.ensures.2,
      omega (arith, v-append-own.ensures.1, v-pre.2),
    )

pub returns : goal.returns
returns c =
    let v-append-own = c.append_own-end in
    let v-append-added = c.append_added in (
      written_then _ _ _ _ _ _ _ _ v-append-own.ensures.0 v-append-added.ensures.0,
      omega
          (arith, v-append-own.ensures.1, v-append-added.ensures.1),
      v-append-own.ensures.2,
    )
