-- A relocation table, or a section of C. Assumes nothing.
use native.Mathlib.Omega.{arith}
use Rattle.base_lists.proofs.Written.{written_as}
use Rattle.merge_kept.proofs.Kept.{kept_le}
use Rattle.write_planned.proofs.Own.{spans_same}
use Rattle.write_planned.proofs.Planned.{planned_as, planned_table, planned_own, planned_stays}
use Rattle.write_planned.proofs.append_planned.Goals as goal

pub is_planned_table-requires : goal.is_planned_table-requires
is_planned_table-requires c =
    let v-pre = c.requires in
    let v-args = c.args in (
      v-pre.0.read.read.compiled.named.headed,
      omega (
        arith,
        v-pre.0.carried.stays,
        kept_le v-args.x.stage.inputs.order v-args.compiled.now
            v-args.x.flag,
      ),
    )

pub append_table-requires : goal.append_table-requires
append_table-requires c =
    let v-pre = c.requires in
    let v-args = c.args in
    let v-is-planned-table = c.is_planned_table in
    let v-if1 = c.if-is_planned_table in (
      v-pre.0,
      planned_as v-args.compiled.now v-args.assembled.now v-args.file.now v-args.path.now v-args.x v-args.table.now v-args.places.now v-args.steps.now v-args.index.now v-pre.0 v-args.i _ v-is-planned-table.ensures v-if1.true,
      v-pre.1,
    )

pub returns-then-is_planned_table : goal.returns-then-is_planned_table
returns-then-is_planned_table c =
    let v-args =
    c.args in
    let v-pre =
    c.requires in
    let v-is-planned-table = c.is_planned_table in
    let v-if1 = c.if-is_planned_table in
    let v-append-table = c.append_table in (
      written_as _ _ _ _ _ _ (planned_table v-args.compiled.now v-args.assembled.now v-args.file.now v-args.path.now v-args.x v-args.table.now v-args.places.now v-args.steps.now v-args.index.now v-pre.0 v-args.i _ v-is-planned-table.ensures v-if1.true)
          v-append-table.ensures.0,
      omega (arith, v-append-table.ensures.1),
      spans_same _,
    )

pub append_named-requires : goal.append_named-requires
append_named-requires c =
    let v-pre = c.requires in
    let v-args = c.args in
    let v-is-planned-table = c.is_planned_table in
    let v-if1 = c.if-is_planned_table in (
      v-pre.0,
      planned_stays v-args.compiled.now v-args.assembled.now v-args.file.now v-args.path.now v-args.x v-args.table.now v-args.places.now v-args.steps.now v-args.index.now v-pre.0 v-args.i _ v-is-planned-table.ensures v-if1.false,
      v-pre.1,
    )

pub returns : goal.returns
returns c =
    let v-args =
    c.args in
    let v-pre =
    c.requires in
    let v-is-planned-table = c.is_planned_table in
    let v-if1 = c.if-is_planned_table in
    let v-append-named = c.append_named in (
      written_as _ _ _ _ _ _ (planned_own v-args.compiled.now v-args.assembled.now v-args.file.now v-args.path.now v-args.x v-args.table.now
          v-args.places.now v-args.steps.now v-args.index.now v-pre.0 v-args.i _ v-is-planned-table.ensures v-if1.false)
          v-append-named.ensures.0,
      v-append-named.ensures.1,
      v-append-named.ensures.2,
    )
