-- The table of section names gains them; no other section does. Assumes nothing.
use native.Mathlib.Omega.{arith}
use Rattle.base_lists.proofs.Written.{written_none, written_as}
use Rattle.write_planned.proofs.Planned.{names_added, names_none}
use Rattle.write_planned.proofs.append_added.Goals as goal

pub append_opened-requires : goal.append_opened-requires
append_opened-requires c =
    let v-pre = c.requires in
    (v-pre.0, omega arith, v-pre.1)

pub returns-then-i-own : goal.returns-then-i-own
returns-then-i-own c =
    let v-args =
    c.args in
    let v-pre =
    c.requires in
    let v-if1 = c.if-i-own in
    let v-append-opened = c.append_opened in (
      written_as _ _ _ _ _ _ (names_added v-args.compiled.now v-args.assembled.now v-args.file.now v-args.path.now v-args.x v-args.table.now
          v-args.places.now v-args.steps.now v-args.index.now v-pre.0 v-args.i v-if1.true) v-append-opened.ensures.0,
      v-append-opened.ensures.1,
    )

pub returns : goal.returns
returns c =
    let v-args = c.args in
    let v-pre = c.requires in
    let v-if1 = c.if-i-own in (
      written_as _ _ _ _ _ _ (names_none v-args.compiled.now v-args.assembled.now v-args.file.now v-args.path.now v-args.x v-args.table.now
          v-args.places.now v-args.steps.now v-args.index.now v-pre.0 v-args.i v-if1.false) (written_none _ _),
      omega arith,
    )
